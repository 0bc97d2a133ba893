-- What holds of the rows of a select's sources and of the values of its items holds of its rows.
use Rattle.std.proofs.Common.{◌≡◌, ℕ, zero, suc, ◌+◌, Bool, true, false, if◌then◌else◌, List, [], ◌∷◌, ◌++◌, length, map, filter, take, drop, Option, Some, None, Result, Ok, Err, IfOk, subst, arith, length-append, cond, refl}
use Rattle.std.specs.List.{list_any, AllByRecursion}
use Rattle.std.specs.BTreeMap.{insert_entry}
use Rattle.std.specs.declared.cmp.Ordering.{Ordering}
use Rattle.std.specs.declared.cmp.Ordering.TheVariants.{Less, Equal, Greater}
use Rattle.std.specs.Ordering.{match_ordering}
use Rattle.base_core.proofs.Tests.{or_first, or_rest, or_then}
use Rattle.base_core.specs.declared.value.Value.{Value}
use Rattle.base_core.specs.declared.refusal.Refusal.{Refusal}
use Rattle.schema_core.specs.Catalog.{Catalog}
use Rattle.expr_types.specs.declared.expr.Expr.{Expr}
use Rattle.expr_types.specs.declared.select.Select.{Select}
use Rattle.sql_semantics.specs.Plain.{is_grouped}
use Rattle.base_core.specs.Answers.{Gives}
use Rattle.sql_semantics.specs.Checked.{Checked, ◌>>=◌}
use Rattle.sql_semantics.specs.Eval.{Row, Tables, Place, meaning_of, all_from}
use Rattle.sql_semantics.specs.declared.basis.Basis.{Basis}
use Rattle.sql_semantics.specs.declared.basis.Basis.TheVariants as basis
use Rattle.sql_semantics.specs.declared.sort_key.SortKey.{SortKey}
use Rattle.sql_semantics.specs.Order.{Rank, rank_cmp, ranked_from, in_order, same_row}
use Rattle.sql_semantics.specs.Shapes.{AreWide}
use Rattle.select_sources.proofs.Sure.{Sure, always, bind_sure, every_more, kept_sure, mapped_sure}
use Rattle.join_keys.proofs.KeyedRows.{same_row_equiv}
use Rattle.sql_semantics.specs.Rows.{Frame, Keyed, mapped_from, at, at_basis, sources, rows_where, row_with_key, groups, first_row, group_bases, bases, groups_having, firsts_from, rows_with, keys_from, values, output, distinct, cut_off, within_limit, answer_rows, of_rows, tables_of, require_created, answer}

-- ---- lists

every_take : {A : Type 0} (P : A → Type 0) (n : ℕ) (xs : List A) → AllByRecursion P xs → AllByRecursion P (take n xs)
every_take P zero xs h = tt
every_take P (suc n) [] h = tt
every_take P (suc n) (x ∷ xs) h = (h.0, every_take P n xs h.1)

every_drop : {A : Type 0} (P : A → Type 0) (n : ℕ) (xs : List A) → AllByRecursion P xs → AllByRecursion P (drop n xs)
every_drop P zero xs h = h
every_drop P (suc n) [] h = tt
every_drop P (suc n) (x ∷ xs) h = every_drop P n xs h.1

filter_by : {A : Type 0} (P : A → Type 0) (b : Bool) (x : A) (xs : List A) → P x → AllByRecursion P xs → AllByRecursion P (if b then x ∷ xs else xs)
filter_by P true x xs p h = (p, h)
filter_by P false x xs p h = h

pub every_filter : {A : Type 0} (P : A → Type 0) (test : A → Bool) (xs : List A) → AllByRecursion P xs → AllByRecursion P (filter test xs)
every_filter P test [] h = tt
every_filter P test (x ∷ xs) h = filter_by P (test x) x (filter test xs) h.0 (every_filter P test xs h.1)

every_map : {A B : Type 0} (f : A → B) (P : B → Type 0) (xs : List A) → AllByRecursion (λ x. P (f x)) xs → AllByRecursion P (map f xs)
every_map f P [] h = tt
every_map f P (x ∷ xs) h = (h.0, every_map f P xs h.1)

-- ---- order, distinct, cut

ranked_by : (P : Row → Type 0) (o : Ordering) (e : Rank × Row) (es rest : List (Rank × Row)) (k : Rank) (v : Row) → P e.1 → P v → AllByRecursion (λ d. P d.1) es → AllByRecursion (λ d. P d.1) rest
    → AllByRecursion (λ d. P d.1) (match_ordering o ((k, v) ∷ e ∷ es) ((e.0, v) ∷ es) (e ∷ rest))
ranked_by P Less e es rest k v p q h r = (q, (p, h))
ranked_by P Equal e es rest k v p q h r = (q, h)
ranked_by P Greater e es rest k v p q h r = (p, r)

insert_every : (P : Row → Type 0) (es : List (Rank × Row)) (k : Rank) (v : Row) → AllByRecursion (λ d. P d.1) es → P v → AllByRecursion (λ d. P d.1) (insert_entry rank_cmp es k v)
insert_every P [] k v h p = (p, tt)
insert_every P (e ∷ es) k v h p = ranked_by P (rank_cmp k e.0) e es (insert_entry rank_cmp es k v) k v h.0 p h.1 (insert_every P es k v h.1 p)

ranked_every : (P : Row → Type 0) (done : List (Rank × Row)) (n : ℕ) (outs : List (List SortKey × Row)) → AllByRecursion (λ d. P d.1) done → AllByRecursion (λ o. P o.1) outs → AllByRecursion (λ d. P d.1) (ranked_from done n outs)
ranked_every P done n [] d h = d
ranked_every P done n (o ∷ outs) d h = ranked_every P (insert_entry rank_cmp done (o.0, n) o.1) (suc n) outs (insert_every P done (o.0, n) o.1 d h.0) h.1

ordered_every : (P : Row → Type 0) (outs : List (List SortKey × Row)) → AllByRecursion (λ o. P o.1) outs → AllByRecursion P (in_order outs)
unfolding in_order
ordered_every P outs h = every_map (λ (e : Rank × Row). e.1) P (ranked_from [] 0 outs) (ranked_every P [] 0 outs tt h)

first_by : (P : Row → Type 0) (b : Bool) (done : List Row) (r : Row) → AllByRecursion P done → P r → AllByRecursion P (if b then done else done ++ r ∷ [])
first_by P true done r d p = d
first_by P false done r d p = every_more P done r d p

firsts_every : (P : Row → Type 0) (done rows : List Row) → AllByRecursion P done → AllByRecursion P rows → AllByRecursion P (firsts_from done rows)
firsts_every P done [] d h = d
firsts_every P done (r ∷ rows) d h = firsts_every P (if list_any (same_row r) done then done else done ++ r ∷ []) rows (first_by P (list_any (same_row r) done) done r d h.0) h.1

distinct_every : (P : Row → Type 0) (b : Bool) (rows : List Row) → AllByRecursion P rows → AllByRecursion P (distinct b rows)
distinct_every P true rows h = firsts_every P [] rows tt h
distinct_every P false rows h = h

off_every : (P : Row → Type 0) (o : Option ℕ) (rows : List Row) → AllByRecursion P rows → AllByRecursion P (cut_off o rows)
off_every P None rows h = h
off_every P (Some n) rows h = every_drop P n rows h

limited_every : (P : Row → Type 0) (o : Option ℕ) (rows : List Row) → AllByRecursion P rows → AllByRecursion P (within_limit o rows)
limited_every P None rows h = h
limited_every P (Some n) rows h = every_take P n rows h

answered_every : (P : Row → Type 0) (s : Select) (outs : List (List SortKey × Row)) → AllByRecursion (λ o. P o.1) outs → AllByRecursion P (answer_rows s outs)
answered_every P s outs h =
    limited_every P s.limit (cut_off s.offset (distinct s.distinct (in_order outs)))
    (off_every P s.offset (distinct s.distinct (in_order outs)) (distinct_every P s.distinct (in_order outs) (ordered_every P outs h)))

-- ---- groups

-- where group expressions are given, no group is empty
abbrev FirstRow : (Row → Type 0) → List Expr → List Row → Type 0
FirstRow P [] rows = Unit {0}
FirstRow P (e ∷ es) rows = P (first_row rows)

-- the rows of a basis have the property
abbrev pub OfBasis : (Row → Type 0) → Bool → List Expr → Basis → Type 0
OfBasis P grouped es (basis.Row r) = P r
OfBasis P grouped es (basis.Group rows) = (grouped ≡ true) × AllByRecursion P rows × FirstRow P es rows

keyed_sure : (P : Row → Type 0) (f : Frame) (es : List Expr) (r : Row) → P r → Sure (λ (k : Keyed). P k.1) (row_with_key f es r)
keyed_sure P f es r p = bind_sure (λ _. Unit {0}) (λ (k : Keyed). P k.1) (all_from (at f r) [] (map meaning_of es)) (λ vs. Ok (vs, r)) (always (all_from (at f r) [] (map meaning_of es))) (λ vs _. p)

-- a row has the key
abbrev IsKey : List Keyed → List Value → Type 0
IsKey all key = list_any (λ k. same_row key k.0) all ≡ true

still_keys : (k : Keyed) (all : List Keyed) (keys : List (List Value)) → AllByRecursion (IsKey all) keys → AllByRecursion (IsKey (k ∷ all)) keys
still_keys k all [] h = tt
still_keys k all (key ∷ keys) h = (or_then (same_row key k.0) (list_any (λ (l : Keyed). same_row key l.0) all) h.0, still_keys k all keys h.1)

own_keys : (all : List Keyed) → AllByRecursion (IsKey all) (map (λ k. k.0) all)
own_keys [] = tt
own_keys (k ∷ all) = (or_first (same_row k.0 k.0) (list_any (λ (l : Keyed). same_row k.0 l.0) all) (same_row_equiv.refl k.0), still_keys k all (map (λ (l : Keyed). l.0) all) (own_keys all))

found_by : (P : Row → Type 0) (b : Bool) (k : Keyed) (rest : List Keyed) → P k.1 → (b ≡ false → P (first_row (map (λ l. l.1) rest))) → P (first_row (map (λ l. l.1) (cond b (k ∷ rest) rest)))
found_by P true k rest p h = p
found_by P false k rest p h = h refl

first_found : (P : Row → Type 0) (all : List Keyed) (key : List Value) → AllByRecursion (λ k. P k.1) all → IsKey all key → P (first_row (rows_with all key))
first_found P [] key h l = absurd (cc)
first_found P (k ∷ all) key h l =
    found_by P (same_row key k.0) k (filter (λ (l : Keyed). same_row key l.0) all) h.0
    (λ other. first_found P all key h.1 (or_rest (same_row key k.0) (list_any (λ (l : Keyed). same_row key l.0) all) l other))

groups_every : (P : Row → Type 0) (b : Bool) (e : Expr) (es : List Expr) (all : List Keyed) (keys : List (List Value)) → b ≡ true → AllByRecursion (λ k. P k.1) all → AllByRecursion (IsKey all) keys
    → AllByRecursion (OfBasis P b (e ∷ es)) (map (λ key. basis.Group (rows_with all key)) keys)
groups_every P b e es all [] is h g = tt
groups_every P b e es all (key ∷ keys) is h g =
    ((is, every_map (λ (k : Keyed). k.1) P (filter (λ k. same_row key k.0) all) (every_filter (λ (k : Keyed). P k.1) (λ k. same_row key k.0) all h), first_found P all key h g.0), groups_every P b e es all keys is h g.1)

grouped_sure : (P : Row → Type 0) (b : Bool) (f : Frame) (es : List Expr) (rows : List Row) → b ≡ true → AllByRecursion P rows → Sure (AllByRecursion (OfBasis P b es)) (group_bases f es rows)
grouped_sure P b f [] rows is h = ((is, h, tt), tt)
grouped_sure P b f (e ∷ es) rows is h =
    bind_sure (AllByRecursion (λ (k : Keyed). P k.1)) (AllByRecursion (OfBasis P b (e ∷ es))) (mapped_from (row_with_key f (e ∷ es)) [] rows) (λ all. Ok (groups all))
    (mapped_sure P (λ (k : Keyed). P k.1) (row_with_key f (e ∷ es)) (keyed_sure P f (e ∷ es)) [] rows tt h)
    (λ all g. groups_every P b e es all (firsts_from [] (map (λ (k : Keyed). k.0) all)) is g (firsts_every (IsKey all) [] (map (λ (k : Keyed). k.0) all) tt (own_keys all)))

rows_every : (P : Row → Type 0) (b : Bool) (es : List Expr) (rows : List Row) → AllByRecursion P rows → AllByRecursion (OfBasis P b es) (map (λ r. basis.Row r) rows)
rows_every P b es [] h = tt
rows_every P b es (r ∷ rows) h = (h.0, rows_every P b es rows h.1)

bases_by : (P : Basis → Type 0) (b : Bool) (r : Checked (List Basis)) (bs : List Basis) → (b ≡ true → Sure (AllByRecursion P) r) → AllByRecursion P bs → Sure (AllByRecursion P) (if b then r else Ok bs)
bases_by P true r bs h g = h refl
bases_by P false r bs h g = g

pub bases_sure : (P : Row → Type 0) (f : Frame) (s : Select) (rows : List Row) → AllByRecursion P rows → Sure (AllByRecursion (OfBasis P (is_grouped s) s.groups)) (bases f s rows)
bases_sure P f s rows h =
    bases_by (OfBasis P (is_grouped s) s.groups) (is_grouped s) (group_bases f s.groups rows) (map (λ r. basis.Row r) rows) (λ is. grouped_sure P (is_grouped s) f s.groups rows is h)
    (rows_every P (is_grouped s) s.groups rows h)

pub having_sure : (P : Basis → Type 0) (f : Frame) (o : Option Expr) (bs : List Basis) → AllByRecursion P bs → Sure (AllByRecursion P) (groups_having f o bs)
having_sure P f None bs h = h
having_sure P f (Some e) bs h = kept_sure P (λ b. meaning_of e (at_basis f b)) [] bs tt h

output_sure : (P : Row → Type 0) (f : Frame) (s : Select) (b : Basis) → Sure P (values (at_basis f b) s) → Sure (λ (o : List SortKey × Row). P o.1) (output f s b)
output_sure P f s b h =
    bind_sure P (λ (o : List SortKey × Row). P o.1) (values (at_basis f b) s) (λ row. keys_from (at_basis f b) [] s.order >>= λ keys. Ok (keys, row)) h
    (λ row p. bind_sure (λ _. Unit {0}) (λ (o : List SortKey × Row). P o.1) (keys_from (at_basis f b) [] s.order) (λ keys. Ok (keys, row)) (always (keys_from (at_basis f b) [] s.order)) (λ keys _. p))

-- the rows of a select have what the values of its items have at each basis
pub of_rows_sure : (Q P : Row → Type 0) (f : Frame) (s : Select) (rows : List Row) → AllByRecursion Q rows → ((b : Basis) → OfBasis Q (is_grouped s) s.groups b → Sure P (values (at_basis f b) s)) → Sure (AllByRecursion P) (of_rows f s rows)
of_rows_sure Q P f s rows h g =
    bind_sure (AllByRecursion (OfBasis Q (is_grouped s) s.groups)) (AllByRecursion P) (bases f s rows) (λ all. groups_having f s.having all >>= λ left. mapped_from (output f s) [] left >>= λ outs. Ok (answer_rows s outs)) (bases_sure Q f s rows h)
    (λ all a. bind_sure (AllByRecursion (OfBasis Q (is_grouped s) s.groups)) (AllByRecursion P) (groups_having f s.having all) (λ left. mapped_from (output f s) [] left >>= λ outs. Ok (answer_rows s outs)) (having_sure (OfBasis Q (is_grouped s) s.groups) f s.having all a)
    (λ left l. bind_sure (AllByRecursion (λ (o : List SortKey × Row). P o.1)) (AllByRecursion P) (mapped_from (output f s) [] left) (λ outs. Ok (answer_rows s outs))
    (mapped_sure (OfBasis Q (is_grouped s) s.groups) (λ (o : List SortKey × Row). P o.1) (output f s) (λ b p. output_sure P f s b (g b p)) [] left tt l) (λ outs o. answered_every P s outs o)))

-- ---- one value for each item

abbrev IsLong : ℕ → Row → Type 0
IsLong n vs = length vs ≡ n

values_long : {A : Type 0} (e : A → Expr) (p : Place) (done : Row) (xs : List A) → Sure (IsLong (length done + length xs)) (all_from p done (map (λ x. meaning_of (e x)) xs))
values_long e p done [] = omega arith
values_long e p done (x ∷ xs) =
    bind_sure (λ _. Unit {0}) (IsLong (length done + length (x ∷ xs))) (meaning_of (e x) p) (λ v. all_from p (done ++ v ∷ []) (map (λ y. meaning_of (e y)) xs)) (always (meaning_of (e x) p))
    (λ v _. subst (λ n. Sure (IsLong n) (all_from p (done ++ v ∷ []) (map (λ y. meaning_of (e y)) xs))) (omega (arith, length-append {A = Value})) (values_long e p (done ++ v ∷ []) xs))

values_wide : (s : Select) (p : Place) → Sure (IsLong (length s.items)) (values p s)
values_wide s p = subst (λ n. Sure (IsLong n) (values p s)) (omega arith) (values_long (λ (i : Expr × Option (List ℕ)). i.0) p [] s.items)

trivial : {A : Type 0} (xs : List A) → AllByRecursion (λ _. Unit {0}) xs
trivial [] = tt
trivial (x ∷ xs) = (tt, trivial xs)

answer_wide : (schema : Catalog) (tables : Tables) (s : Select) → Sure (AreWide s) (answer schema tables s)
unfolding answer
answer_wide schema tables s =
    bind_sure (λ _. Unit {0}) (AreWide s) (require_created tables (tables_of s)) (λ _. sources schema tables s >>= λ from. rows_where from.0 s.filter from.1 >>= λ rows. of_rows from.0 s rows) (always (require_created tables (tables_of s)))
    (λ _ _. bind_sure (λ _. Unit {0}) (AreWide s) (sources schema tables s) (λ from. rows_where from.0 s.filter from.1 >>= λ rows. of_rows from.0 s rows) (always (sources schema tables s))
    (λ from _. bind_sure (λ _. Unit {0}) (AreWide s) (rows_where from.0 s.filter from.1) (λ rows. of_rows from.0 s rows) (always (rows_where from.0 s.filter from.1))
    (λ rows _. of_rows_sure (λ _. Unit {0}) (IsLong (length s.items)) from.0 s rows (trivial rows) (λ b _. values_wide s (at_basis from.0 b)))))

pub sure_told : {A X : Type 0} (view : X → A) (P : A → Type 0) (r : Result X Refusal) (told : Checked A) → Gives view r told → Sure P told → IfOk r (λ x. P (view x))
sure_told view P (Ok x) told g h = subst (Sure P) g h
sure_told view P (Err e) told g h = tt

-- each row has one value for each item
pub wide_rows : (schema : Catalog) (tables : Tables) (s : Select) (r : Result (List Row) Refusal) → Gives (λ (x : List Row). x) r (answer schema tables s) → IfOk r (λ rows. AreWide s rows)
wide_rows schema tables s r g = sure_told (λ (x : List Row). x) (AreWide s) r (answer schema tables s) g (answer_wide schema tables s)
