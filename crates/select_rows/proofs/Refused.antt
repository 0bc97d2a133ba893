-- What may refuse a select: a table of its text that was not created, and where it calculates a result outside 64 bits.
use Rattle.std.proofs.Common.{◌≡◌, ℕ, ◌+◌, Bool, true, false, ◌||◌, ◌==◌, if◌then◌else◌, List, [], ◌∷◌, ◌++◌, map, Option, Some, None, Result, Ok, Err, IfErr, IsTrue, subst}
use Rattle.std.proofs.lemmas.Cmp.{nat_eq_equiv}
use Rattle.std.specs.List.{list_any}
use Rattle.base_core.proofs.Tests.{or_first, or_then}
use Rattle.base_core.specs.declared.value.Value.{Value}
use Rattle.base_core.specs.Answers.{Gives}
use Rattle.base_core.specs.declared.refusal.Refusal.{Refusal}
use Rattle.base_core.specs.declared.refusal.Refusal.TheVariants.{Memory, DataError, OperationalError}
use Rattle.schema_core.specs.Catalog.{Catalog}
use Rattle.expr_types.specs.declared.expr.Expr.{Expr}
use Rattle.expr_types.specs.declared.select.Joined.{Joined}
use Rattle.expr_types.specs.declared.select.Select.{Select}
use Rattle.sql_semantics.specs.Arithmetic.{has_arithmetic}
use Rattle.sql_semantics.specs.Plain.{is_grouped}
use Rattle.sql_semantics.specs.Checked.{Checked, ◌>>=◌}
use Rattle.sql_semantics.specs.Truth.{passes}
use Rattle.sql_semantics.specs.Eval.{Row, Tables, Place, meaning_of, all_from, rows_in}
use Rattle.expr_eval.proofs.Refused.{OnlyDataOf, bind_of, evaluated_of}
use Rattle.sql_semantics.specs.declared.basis.Basis.{Basis}
use Rattle.sql_semantics.specs.declared.basis.Basis.TheVariants as basis
use Rattle.sql_semantics.specs.declared.sort_key.SortKey.{SortKey}
use Rattle.sql_semantics.specs.Order.{key_of}
use Rattle.sql_semantics.specs.SelectRefusals.{CanRefuse, calculates, calculates_where}
use Rattle.sql_semantics.specs.Rows.{Frame, kept_from, each_from, mapped_from, at, at_basis, width, condition, joined_row, rows_of_join, joined_all, or_nulls, wider, sources, rows_where, row_with_key, groups, group_bases, bases, groups_having, keys_from, values, output, answer_rows, of_rows, tables_of, is_created, require_created, answer}

-- ---- lists

kept_data : {A : Type 0} (c : Bool) (test : A → Checked Value) → ((x : A) → OnlyDataOf c (test x)) → (done xs : List A) → OnlyDataOf c (kept_from test done xs)
kept_data c test h done [] = tt
kept_data c test h done (x ∷ xs) =
    bind_of c (test x) (λ v. kept_from test (if passes v then done ++ x ∷ [] else done) xs) (h x) (λ v. kept_data c test h (if passes v then done ++ x ∷ [] else done) xs)

each_data : {A B : Type 0} (c : Bool) (f : A → Checked (List B)) → ((x : A) → OnlyDataOf c (f x)) → (done : List B) (xs : List A) → OnlyDataOf c (each_from f done xs)
each_data c f h done [] = tt
each_data c f h done (x ∷ xs) = bind_of c (f x) (λ ys. each_from f (done ++ ys) xs) (h x) (λ ys. each_data c f h (done ++ ys) xs)

mapped_data : {A B : Type 0} (c : Bool) (f : A → Checked B) → ((x : A) → OnlyDataOf c (f x)) → (done : List B) (xs : List A) → OnlyDataOf c (mapped_from f done xs)
mapped_data c f h done [] = tt
mapped_data c f h done (x ∷ xs) = bind_of c (f x) (λ y. mapped_from f (done ++ y ∷ []) xs) (h x) (λ y. mapped_data c f h (done ++ y ∷ []) xs)

-- one of some expressions calculates
abbrev some_calculates : {A : Type 0} → (A → Expr) → List A → Bool
some_calculates e = list_any (λ x. has_arithmetic (e x))

all_data : {A : Type 0} (c : Bool) (e : A → Expr) (p : Place) (done : List Value) (xs : List A) → (some_calculates e xs ≡ true → c ≡ true) → OnlyDataOf c (all_from p done (map (λ x. meaning_of (e x)) xs))
all_data c e p done [] can = tt
all_data c e p done (x ∷ xs) can =
    bind_of c (meaning_of (e x) p) (λ v. all_from p (done ++ v ∷ []) (map (λ y. meaning_of (e y)) xs)) (evaluated_of c (e x) (λ t. can (or_first (has_arithmetic (e x)) (some_calculates e xs) t)) p)
    (λ v. all_data c e p (done ++ v ∷ []) xs (λ t. can (or_then (has_arithmetic (e x)) (some_calculates e xs) t)))

-- ---- the parts of a select

abbrev on_of : Joined → Expr
on_of j = j.on

abbrev item_of : Expr × Option (List ℕ) → Expr
item_of item = item.0

abbrev key_expression : Expr × Bool → Expr
key_expression key = key.0

abbrev itself : Expr → Expr
itself e = e

joined_row_data : (c : Bool) (f : Frame) (j : Joined) (n : ℕ) (r : Row) → (has_arithmetic j.on ≡ true → c ≡ true) → OnlyDataOf c (joined_row f j n r)
joined_row_data c f j n r can =
    bind_of c (kept_from (condition f j.on) [] (map (λ x. r ++ x) (rows_in f.tables j.origin.table.0))) (λ rows. Ok (or_nulls j.left r n rows))
    (kept_data c (condition f j.on) (λ x. evaluated_of c j.on can (at f x)) [] (map (λ x. r ++ x) (rows_in f.tables j.origin.table.0))) (λ rows. tt)

joined_data : (c : Bool) (schema : Catalog) (f : Frame) (n : ℕ) (js : List Joined) (rows : List Row) → (some_calculates on_of js ≡ true → c ≡ true) → OnlyDataOf c (joined_all schema f n js rows)
joined_data c schema f n [] rows can = tt
joined_data c schema f n (j ∷ js) rows can =
    bind_of c (rows_of_join schema (wider f n) j rows) (λ more. joined_all schema (wider f n) (n + width schema j.origin) js more)
    (each_data c (joined_row (wider f n) j (width schema j.origin)) (λ r. joined_row_data c (wider f n) j (width schema j.origin) r (λ t. can (or_first (has_arithmetic j.on) (some_calculates on_of js) t))) [] rows)
    (λ more. joined_data c schema (wider f n) (n + width schema j.origin) js more (λ t. can (or_then (has_arithmetic j.on) (some_calculates on_of js) t)))

sources_data : (c : Bool) (schema : Catalog) (tables : Tables) (s : Select) → (some_calculates on_of s.joins ≡ true → c ≡ true) → OnlyDataOf c (sources schema tables s)
unfolding sources
sources_data c schema tables s can = joined_data c schema (record { starts = 0 ∷ []; tables = tables }) (width schema s.first) s.joins (rows_in tables s.first.table.0) can

passed_data : (c : Bool) (f : Frame) (o : Option Expr) (rows : List Row) → (calculates_where o ≡ true → c ≡ true) → OnlyDataOf c (rows_where f o rows)
passed_data c f None rows can = tt
passed_data c f (Some e) rows can = kept_data c (condition f e) (λ x. evaluated_of c e can (at f x)) [] rows

keyed_data : (c : Bool) (f : Frame) (es : List Expr) (r : Row) → (some_calculates itself es ≡ true → c ≡ true) → OnlyDataOf c (row_with_key f es r)
keyed_data c f es r can = bind_of c (all_from (at f r) [] (map meaning_of es)) (λ vs. Ok (vs, r)) (all_data c itself (at f r) [] es can) (λ vs. tt)

grouped_data : (c : Bool) (f : Frame) (es : List Expr) (rows : List Row) → (some_calculates itself es ≡ true → c ≡ true) → OnlyDataOf c (group_bases f es rows)
grouped_data c f [] rows can = tt
grouped_data c f (e ∷ es) rows can =
    bind_of c (mapped_from (row_with_key f (e ∷ es)) [] rows) (λ all. Ok (groups all)) (mapped_data c (row_with_key f (e ∷ es)) (λ r. keyed_data c f (e ∷ es) r can) [] rows) (λ all. tt)

either_data : {A : Type 0} (c b : Bool) (r : Checked A) (x : A) → OnlyDataOf c r → OnlyDataOf c (if b then r else Ok x)
either_data c true r x h = h
either_data c false r x h = tt

bases_data : (c : Bool) (f : Frame) (s : Select) (rows : List Row) → (some_calculates itself s.groups ≡ true → c ≡ true) → OnlyDataOf c (bases f s rows)
bases_data c f s rows can = either_data c (is_grouped s) (group_bases f s.groups rows) (map (λ r. basis.Row r) rows) (grouped_data c f s.groups rows can)

having_data : (c : Bool) (f : Frame) (o : Option Expr) (bs : List Basis) → (calculates_where o ≡ true → c ≡ true) → OnlyDataOf c (groups_having f o bs)
having_data c f None bs can = tt
having_data c f (Some e) bs can = kept_data c (λ b. meaning_of e (at_basis f b)) (λ b. evaluated_of c e can (at_basis f b)) [] bs

keys_data : (c : Bool) (p : Place) (done : List SortKey) (ks : List (Expr × Bool)) → (some_calculates key_expression ks ≡ true → c ≡ true) → OnlyDataOf c (keys_from p done ks)
keys_data c p done [] can = tt
keys_data c p done (k ∷ ks) can =
    bind_of c (meaning_of k.0 p) (λ v. keys_from p (done ++ key_of k.1 v ∷ []) ks) (evaluated_of c k.0 (λ t. can (or_first (has_arithmetic k.0) (some_calculates key_expression ks) t)) p)
    (λ v. keys_data c p (done ++ key_of k.1 v ∷ []) ks (λ t. can (or_then (has_arithmetic k.0) (some_calculates key_expression ks) t)))

-- what calculates in a part of a select calculates in the whole
record AreParts (c : Bool) (s : Select) : Type 0 where
  in_items : some_calculates item_of s.items ≡ true → c ≡ true
  in_joins : some_calculates on_of s.joins ≡ true → c ≡ true
  in_filter : calculates_where s.filter ≡ true → c ≡ true
  in_groups : some_calculates itself s.groups ≡ true → c ≡ true
  in_having : calculates_where s.having ≡ true → c ≡ true
  in_order : some_calculates key_expression s.order ≡ true → c ≡ true

parts_of : (s : Select) → AreParts (calculates s) s
parts_of s =
    let a : Bool = some_calculates item_of s.items in
    let b : Bool = some_calculates on_of s.joins in
    let d : Bool = calculates_where s.filter in
    let e : Bool = some_calculates itself s.groups in
    let f : Bool = calculates_where s.having in
    let g : Bool = some_calculates key_expression s.order in
    record {
      in_items = λ t. or_first (a || b || d || e || f) g (or_first (a || b || d || e) f (or_first (a || b || d) e (or_first (a || b) d (or_first a b t))));
      in_joins = λ t. or_first (a || b || d || e || f) g (or_first (a || b || d || e) f (or_first (a || b || d) e (or_first (a || b) d (or_then a b t))));
      in_filter = λ t. or_first (a || b || d || e || f) g (or_first (a || b || d || e) f (or_first (a || b || d) e (or_then (a || b) d t)));
      in_groups = λ t. or_first (a || b || d || e || f) g (or_first (a || b || d || e) f (or_then (a || b || d) e t));
      in_having = λ t. or_first (a || b || d || e || f) g (or_then (a || b || d || e) f t);
      in_order = λ t. or_then (a || b || d || e || f) g t;
    }

output_data : (c : Bool) (f : Frame) (s : Select) (b : Basis) → AreParts c s → OnlyDataOf c (output f s b)
output_data c f s b parts =
    bind_of c (values (at_basis f b) s) (λ row. keys_from (at_basis f b) [] s.order >>= λ keys. Ok (keys, row)) (all_data c item_of (at_basis f b) [] s.items parts.in_items)
    (λ row. bind_of c (keys_from (at_basis f b) [] s.order) (λ keys. Ok (keys, row)) (keys_data c (at_basis f b) [] s.order parts.in_order) (λ keys. tt))

of_rows_data : (c : Bool) (f : Frame) (s : Select) (rows : List Row) → AreParts c s → OnlyDataOf c (of_rows f s rows)
of_rows_data c f s rows parts =
    bind_of c (bases f s rows) (λ all. groups_having f s.having all >>= λ left. mapped_from (output f s) [] left >>= λ outs. Ok (answer_rows s outs)) (bases_data c f s rows parts.in_groups)
    (λ all. bind_of c (groups_having f s.having all) (λ left. mapped_from (output f s) [] left >>= λ outs. Ok (answer_rows s outs)) (having_data c f s.having all parts.in_having)
    (λ left. bind_of c (mapped_from (output f s) [] left) (λ outs. Ok (answer_rows s outs)) (mapped_data c (output f s) (λ b. output_data c f s b parts) [] left) (λ outs. tt)))

-- ---- tables that were not created

-- the refusal is of a table of the list
abbrev pub CanMiss : List ℕ → Refusal → Type 0
CanMiss ts (OperationalError table) = IsTrue (list_any (λ t. t == table.0) ts)
CanMiss ts e = ⊥

abbrev pub OnlyMisses : {A : Type 0} → List ℕ → Checked A → Type 0
OnlyMisses ts (Ok a) = Unit {0}
OnlyMisses ts (Err e) = CanMiss ts e

more_misses : {A : Type 0} (t : ℕ) (ts : List ℕ) (r : Checked A) → OnlyMisses ts r → OnlyMisses (t ∷ ts) r
more_misses t ts (Ok a) h = tt
more_misses t ts (Err (OperationalError table)) h = or_then (t == table.0) (list_any (λ x. x == table.0) ts) h
more_misses t ts (Err e) h = h

created_by : (b : Bool) (t : ℕ) (ts : List ℕ) (r : Checked (Unit {0})) → OnlyMisses ts r → OnlyMisses (t ∷ ts) (if b then r else Err (OperationalError (record { 0 = t })))
created_by true t ts r h = more_misses t ts r h
created_by false t ts r h = or_first (t == t) (list_any (λ x. x == t) ts) (nat_eq_equiv.refl t)

pub created_misses : (tables : Tables) (ts : List ℕ) → OnlyMisses ts (require_created tables ts)
created_misses tables [] = tt
created_misses tables (t ∷ ts) = created_by (is_created tables t) t ts (require_created tables ts) (created_misses tables ts)

-- ---- the whole

abbrev OnlyOf : {A : Type 0} → Select → Checked A → Type 0
OnlyOf s (Ok a) = Unit {0}
OnlyOf s (Err e) = CanRefuse s e

of_data : {A : Type 0} (s : Select) (r : Checked A) → OnlyDataOf (calculates s) r → OnlyOf s r
of_data s (Ok a) h = tt
of_data s (Err (DataError op a b)) h = h
of_data s (Err e) h = absurd h

of_misses : {A : Type 0} (s : Select) (r : Checked A) → OnlyMisses (tables_of s) r → OnlyOf s r
of_misses s (Ok a) h = tt
of_misses s (Err (OperationalError table)) h = h
of_misses s (Err e) h = absurd h

then_of : {A B : Type 0} (s : Select) (r : Checked A) (f : A → Checked B) → OnlyOf s r → ((a : A) → OnlyOf s (f a)) → OnlyOf s (r >>= f)
then_of s (Ok a) f h g = g a
then_of s (Err e) f h g = h

answer_of : (schema : Catalog) (tables : Tables) (s : Select) → OnlyOf s (answer schema tables s)
unfolding answer
answer_of schema tables s =
    let c : Bool = calculates s in
    let parts : AreParts (calculates s) s = parts_of s in
    then_of s (require_created tables (tables_of s)) (λ _. sources schema tables s >>= λ from. rows_where from.0 s.filter from.1 >>= λ rows. of_rows from.0 s rows) (of_misses s (require_created tables (tables_of s)) (created_misses tables (tables_of s)))
    (λ _. of_data s (sources schema tables s >>= λ from. rows_where from.0 s.filter from.1 >>= λ rows. of_rows from.0 s rows)
    (bind_of c (sources schema tables s) (λ from. rows_where from.0 s.filter from.1 >>= λ rows. of_rows from.0 s rows) (sources_data c schema tables s parts.in_joins)
    (λ from. bind_of c (rows_where from.0 s.filter from.1) (λ rows. of_rows from.0 s rows) (passed_data c from.0 s.filter from.1 parts.in_filter) (λ rows. of_rows_data c from.0 s rows parts))))

told_of : {A X : Type 0} (view : X → A) (s : Select) (r : Result X Refusal) (told : Checked A) → Gives view r told → OnlyOf s told → IfErr r (λ e. CanRefuse s e)
told_of view s (Ok x) told g h = tt
told_of view s (Err Memory) told g h = tt
told_of view s (Err e) told g h = subst (OnlyOf s) g h

-- what refuses a select is of the tables of its text, or where it calculates a result outside 64 bits, unless memory ran out
pub refused_rows : (schema : Catalog) (tables : Tables) (s : Select) (r : Result (List Row) Refusal) → Gives (λ (x : List Row). x) r (answer schema tables s) → IfErr r (λ e. CanRefuse s e)
refused_rows schema tables s r g = told_of (λ (x : List Row). x) s r (answer schema tables s) g (answer_of schema tables s)
