-- Nothing but a result outside 64 bits refuses an expression, and only one that calculates.
use Rattle.std.proofs.Common.{◌≡◌, ℤ, pos, Bool, true, false, ◌||◌, List, [], ◌∷◌, ◌++◌, map, Option, Some, None, Ok, Err, if◌then◌else◌, refl, sym, ◌∙◌, subst}
use Rattle.std.specs.List.{list_any}
use Rattle.base_core.proofs.Tests.{or_first, or_then}
use Rattle.base_core.specs.declared.value.Value.{Value}
use Rattle.base_core.specs.declared.value.Value.TheVariants as value
use Rattle.base_core.specs.declared.value.ArithOp.{ArithOp}
use Rattle.base_core.specs.declared.value.ArithOp.TheVariants.{Add, Sub}
use Rattle.base_core.specs.declared.refusal.Refusal.{Refusal}
use Rattle.base_core.specs.declared.refusal.Refusal.TheVariants.{DataError}
use Rattle.expr_types.specs.declared.expr.Func.{Func}
use Rattle.expr_types.specs.declared.expr.Func.TheVariants.{Count, Sum, Min, Max, Lower, Upper, Length, Coalesce}
use Rattle.expr_types.specs.declared.expr.Expr.{Expr, roll-Expr}
use Rattle.expr_types.specs.declared.expr.Expr.TheOpen.{Expr-F}
use Rattle.expr_types.specs.declared.expr.Expr.TheFolds.{ind-Expr, map-Expr}
use Rattle.expr_types.specs.Level.{is_aggregate_function}
use Rattle.sql_semantics.specs.Arithmetic.{arithmetic_level, has_arithmetic, is_sum}
use Rattle.sql_semantics.specs.Checked.{Checked, ◌>>=◌}
use Rattle.sql_semantics.specs.Truth.{passes}
use Rattle.sql_semantics.specs.Eval.{Place, Meaning, Row, meaning_of, meaning, all_from, along_from, call_meaning, integer_result, int, exact, fits_i64, arithmetic, unary_minus, aggregate_value, function_value, group_values, over, known_values, without_group, sum_from, total, some_from, inside, pair, two, rows_in}
use Rattle.sql_semantics.proofs.Equations.{arithmetic_rolled, rolled}

-- the refusal is of a result outside 64 bits, and something calculates
abbrev pub IsDataOf : Bool → Refusal → Type 0
IsDataOf c (DataError op a b) = c ≡ true
IsDataOf c e = ⊥

abbrev pub OnlyDataOf : {A : Type 0} → Bool → Checked A → Type 0
OnlyDataOf c (Ok a) = Unit {0}
OnlyDataOf c (Err e) = IsDataOf c e

pub bind_of : {A B : Type 0} (c : Bool) (r : Checked A) (f : A → Checked B) → OnlyDataOf c r → ((a : A) → OnlyDataOf c (f a)) → OnlyDataOf c (r >>= f)
bind_of c (Ok a) f h g = g a
bind_of c (Err e) f h g = h

wider : {A : Type 0} (b c : Bool) → (b ≡ true → c ≡ true) → (r : Checked A) → OnlyDataOf b r → OnlyDataOf c r
wider b c also (Ok a) h = tt
wider b c also (Err (DataError op x y)) h = also h
wider b c also (Err e) h = absurd h

abbrev IsSafe : Bool → Meaning → Type 0
IsSafe c m = (p : Place) → OnlyDataOf c (m p)

-- ---- arithmetic, where something calculates

calculated_by : (c b : Bool) (op : ArithOp) (x y : ℤ) → c ≡ true → OnlyDataOf c (if b then Ok (exact op x y) else Err (DataError op x y))
calculated_by c true op x y can = tt
calculated_by c false op x y can = can

int_data : (c : Bool) (op : ArithOp) (x y : ℤ) → c ≡ true → OnlyDataOf c (int (integer_result op x y))
int_data c op x y can = bind_of c (integer_result op x y) (λ n. Ok (value.Int n)) (calculated_by c (fits_i64 (exact op x y)) op x y can) (λ n. tt)

arithmetic_data : (c : Bool) (op : ArithOp) → c ≡ true → (a b : Value) → OnlyDataOf c (arithmetic op a b)
arithmetic_data c op can (value.Int a) (value.Int b) = int_data c op a b can
arithmetic_data c op can a b = tt

negated_data : (c : Bool) → c ≡ true → (a : Value) → OnlyDataOf c (unary_minus a)
negated_data c can (value.Int a) = int_data c Sub (pos 0) a can
negated_data c can a = tt

added_data : (c : Bool) → c ≡ true → (sum : Value) (vs : List Value) → OnlyDataOf c (sum_from sum vs)
added_data c can sum [] = tt
added_data c can sum (v ∷ vs) = bind_of c (arithmetic Add sum v) (λ next. sum_from next vs) (arithmetic_data c Add can sum v) (λ next. added_data c can next vs)

total_data : (c : Bool) → c ≡ true → (vs : List Value) → OnlyDataOf c (total vs)
total_data c can [] = tt
total_data c can (v ∷ vs) = added_data c can (value.Int (pos 0)) (v ∷ vs)

aggregated_data : (c : Bool) (f : Func) → (is_sum f ≡ true → c ≡ true) → (o : Option (List Value)) → OnlyDataOf c (aggregate_value f o)
aggregated_data c f can None = tt
aggregated_data c Count can (Some vs) = tt
aggregated_data c Sum can (Some vs) = total_data c (can refl) vs
aggregated_data c Min can (Some vs) = tt
aggregated_data c Max can (Some vs) = tt
aggregated_data c Lower can (Some vs) = tt
aggregated_data c Upper can (Some vs) = tt
aggregated_data c Length can (Some vs) = tt
aggregated_data c Coalesce can (Some vs) = tt

-- ---- operands

pair_data : (c : Bool) (a b : Meaning) (p : Place) → IsSafe c a → IsSafe c b → OnlyDataOf c (pair a b p)
pair_data c a b p ha hb = bind_of c (a p) (λ x. b p >>= λ y. Ok (x, y)) (ha p) (λ x. bind_of c (b p) (λ y. Ok (x, y)) (hb p) (λ y. tt))

two_data : (c : Bool) (a b : Meaning) (f : Value → Value → Checked Value) (p : Place) → IsSafe c a → IsSafe c b → ((x y : Value) → OnlyDataOf c (f x y)) → OnlyDataOf c (two a b f p)
two_data c a b f p ha hb hf = bind_of c (pair a b p) (λ v. f v.0 v.1) (pair_data c a b p ha hb) (λ v. hf v.0 v.1)

abbrev Known : Type 0
Known = (e : Expr) × IsSafe (has_arithmetic e) (meaning_of e)

abbrev plain : List Known → List Expr
plain = map (λ k. k.0)

-- one of the operands calculates
abbrev some_calculates : List Known → Bool
some_calculates ks = list_any (λ has. has) (map has_arithmetic (plain ks))

safe : (c : Bool) (k : Known) → (has_arithmetic k.0 ≡ true → c ≡ true) → IsSafe c (meaning_of k.0)
safe c k can p = wider (has_arithmetic k.0) c can (meaning_of k.0 p) (k.1 p)

all_data : (c : Bool) (p : Place) (ks : List Known) → (some_calculates ks ≡ true → c ≡ true) → (done : List Value) → OnlyDataOf c (all_from p done (map meaning_of (plain ks)))
all_data c p [] can done = tt
all_data c p (k ∷ ks) can done =
    bind_of c (meaning_of k.0 p) (λ v. all_from p (done ++ v ∷ []) (map meaning_of (plain ks)))
    (safe c k (λ t. can (or_first (has_arithmetic k.0) (some_calculates ks) t)) p)
    (λ v. all_data c p ks (λ t. can (or_then (has_arithmetic k.0) (some_calculates ks) t)) (done ++ v ∷ []))

along_data : (c : Bool) (p : Place) (m : Meaning) → IsSafe c m → (done : List Value) (rows : List Row) → OnlyDataOf c (along_from p m done rows)
along_data c p m h done [] = tt
along_data c p m h done (r ∷ rows) = bind_of c (m (record p { row = r })) (λ v. along_from p m (done ++ v ∷ []) rows) (h (record p { row = r })) (λ v. along_data c p m h (done ++ v ∷ []) rows)

over_data : (c : Bool) (g : Option (List Row)) (p : Place) (m : Meaning) → IsSafe c m → OnlyDataOf c (over g p m)
over_data c None p m h = tt
over_data c (Some rows) p m h = bind_of c (along_from (without_group p) m [] rows) (λ vs. Ok (Some (known_values vs))) (along_data c (without_group p) m h [] rows) (λ vs. tt)

gathered_data : (c : Bool) (p : Place) (ks : List Known) → (some_calculates ks ≡ true → c ≡ true) → OnlyDataOf c (group_values (map meaning_of (plain ks)) p)
gathered_data c p [] can = tt
gathered_data c p (k ∷ ks) can = over_data c p.group p (meaning_of k.0) (safe c k (λ t. can (or_first (has_arithmetic k.0) (some_calculates ks) t)))

called_by : (c b : Bool) (r s : Checked Value) → OnlyDataOf c r → OnlyDataOf c s → OnlyDataOf c (if b then r else s)
called_by c true r s h g = h
called_by c false r s h g = g

called_data : (c : Bool) (f : Func) (p : Place) (ks : List Known) → ((is_sum f || some_calculates ks) ≡ true → c ≡ true) → OnlyDataOf c (call_meaning f (map meaning_of (plain ks)) p)
called_data c f p ks can =
    called_by c (is_aggregate_function f) (group_values (map meaning_of (plain ks)) p >>= aggregate_value f) (all_from p [] (map meaning_of (plain ks)) >>= λ vs. Ok (function_value f vs))
    (bind_of c (group_values (map meaning_of (plain ks)) p) (aggregate_value f) (gathered_data c p ks (λ t. can (or_then (is_sum f) (some_calculates ks) t)))
    (aggregated_data c f (λ t. can (or_first (is_sum f) (some_calculates ks) t))))
    (bind_of c (all_from p [] (map meaning_of (plain ks))) (λ vs. Ok (function_value f vs)) (all_data c p ks (λ t. can (or_then (is_sum f) (some_calculates ks) t)) []) (λ vs. tt))

several_data : (c : Bool) (p : Place) (ks : List Known) (f : List Value → Checked Value) → (some_calculates ks ≡ true → c ≡ true) → ((vs : List Value) → OnlyDataOf c (f vs)) → OnlyDataOf c (all_from p [] (map meaning_of (plain ks)) >>= f)
several_data c p ks f can h = bind_of c (all_from p [] (map meaning_of (plain ks))) f (all_data c p ks can []) h

some_data : (c : Bool) (p : Place) (m : Meaning) → IsSafe c m → (found : Bool) (rows : List Row) → OnlyDataOf c (some_from p m found rows)
some_data c p m h found [] = tt
some_data c p m h found (r ∷ rows) = bind_of c (m (inside p r)) (λ v. some_from p m (found || passes v) rows) (h (inside p r)) (λ v. some_data c p m h (found || passes v) rows)

-- ---- levels

one_data : (c : Bool) (a : Known) (f : Value → Checked Value) (p : Place) → ((has_arithmetic a.0 || false) ≡ true → c ≡ true) → ((x : Value) → OnlyDataOf c (f x)) → OnlyDataOf c (meaning_of a.0 p >>= f)
one_data c a f p can h = bind_of c (meaning_of a.0 p) f (safe c a (λ t. can (or_first (has_arithmetic a.0) false t)) p) h

both_data : (c : Bool) (a b : Known) (f : Value → Value → Checked Value) (p : Place) → ((has_arithmetic a.0 || (has_arithmetic b.0 || false)) ≡ true → c ≡ true) → ((x y : Value) → OnlyDataOf c (f x y))
    → OnlyDataOf c (two (meaning_of a.0) (meaning_of b.0) f p)
both_data c a b f p can h =
    let x : Bool = has_arithmetic a.0 in
    let y : Bool = has_arithmetic b.0 in
    two_data c (meaning_of a.0) (meaning_of b.0) f p (safe c a (λ t. can (or_first x (y || false) t))) (safe c b (λ t. can (or_then x (y || false) (or_first y false t)))) h

between_data : (c : Bool) (a b d : Known) (f : Value → Value × Value → Checked Value) (p : Place) → ((has_arithmetic a.0 || (has_arithmetic b.0 || (has_arithmetic d.0 || false))) ≡ true → c ≡ true)
    → ((x : Value) (v : Value × Value) → OnlyDataOf c (f x v)) → OnlyDataOf c (meaning_of a.0 p >>= λ x. pair (meaning_of b.0) (meaning_of d.0) p >>= λ v. f x v)
between_data c a b d f p can h =
    let x : Bool = has_arithmetic a.0 in
    let y : Bool = has_arithmetic b.0 in
    let z : Bool = has_arithmetic d.0 in
    bind_of c (meaning_of a.0 p) (λ x. pair (meaning_of b.0) (meaning_of d.0) p >>= λ v. f x v) (safe c a (λ t. can (or_first x (y || (z || false)) t)) p)
    (λ x. bind_of c (pair (meaning_of b.0) (meaning_of d.0) p) (λ v. f x v)
    (pair_data c (meaning_of b.0) (meaning_of d.0) p (safe c b (λ t. can (or_then (has_arithmetic a.0) (y || (z || false)) (or_first y (z || false) t))))
    (safe c d (λ t. can (or_then (has_arithmetic a.0) (y || (z || false)) (or_then y (z || false) (or_first z false t)))))) (λ v. h x v))

level : (c : Bool) (y : Expr-F Known) → (arithmetic_level (map-Expr Expr Bool has_arithmetic (map-Expr Known Expr (λ k. k.0) y)) ≡ true → c ≡ true) → (p : Place)
    → OnlyDataOf c (meaning (map-Expr Expr Meaning meaning_of (map-Expr Known Expr (λ k. k.0) y)) p)
level c (Expr-F.Column s n) can p = tt
level c (Expr-F.Lit v) can p = tt
level c (Expr-F.Compare op a b) can p = both_data c a b _ p can (λ x y. tt)
level c (Expr-F.IsNull g a) can p = one_data c a _ p can (λ x. tt)
level c (Expr-F.And es) can p = several_data c p es _ can (λ vs. tt)
level c (Expr-F.Or es) can p = several_data c p es _ can (λ vs. tt)
level c (Expr-F.Not a) can p = one_data c a _ p can (λ x. tt)
level c (Expr-F.Arith op a b) can p = two_data c (meaning_of a.0) (meaning_of b.0) (arithmetic op) p (safe c a (λ t. can refl)) (safe c b (λ t. can refl)) (arithmetic_data c op (can refl))
level c (Expr-F.Neg a) can p = bind_of c (meaning_of a.0 p) unary_minus (safe c a (λ t. can refl) p) (negated_data c (can refl))
level c (Expr-F.Concat a b) can p = both_data c a b _ p can (λ x y. tt)
level c (Expr-F.Like g a b) can p = both_data c a b _ p can (λ x y. tt)
level c (Expr-F.Ilike g a b) can p = both_data c a b _ p can (λ x y. tt)
level c (Expr-F.InList g a vs) can p = one_data c a _ p can (λ x. tt)
level c (Expr-F.Between g a b d) can p = between_data c a b d _ p can (λ x v. tt)
level c (Expr-F.Distinct g a b) can p = both_data c a b _ p can (λ x y. tt)
level c (Expr-F.Call f es) can p = called_data c f p es can
level c Expr-F.CountAll can p = tt
level c (Expr-F.Exists g o a) can p =
    bind_of c (some_from p (meaning_of a.0) false (rows_in p.tables o.table.0)) _ (some_data c p (meaning_of a.0) (safe c a (λ t. can (or_first (has_arithmetic a.0) false t))) false (rows_in p.tables o.table.0)) (λ found. tt)

rolled_safe : (y : Expr-F Known) → IsSafe (has_arithmetic (roll-Expr (map-Expr Known Expr (λ k. k.0) y))) (meaning_of (roll-Expr (map-Expr Known Expr (λ k. k.0) y)))
rolled_safe y p =
    let x : Expr-F Expr = map-Expr Known Expr (λ k. k.0) y in
    subst (λ (m : Meaning). OnlyDataOf (has_arithmetic (roll-Expr x)) (m p)) (sym (rolled x)) (level (has_arithmetic (roll-Expr x)) y (λ t. arithmetic_rolled x ∙ t) p)

-- in every place an expression has a value, or where it calculates a result outside 64 bits
calculated : (e : Expr) (p : Place) → OnlyDataOf (has_arithmetic e) (meaning_of e p)
calculated = ind-Expr (λ e. IsSafe (has_arithmetic e) (meaning_of e)) (λ x y is. subst (λ z. IsSafe (has_arithmetic (roll-Expr z)) (meaning_of (roll-Expr z))) is (rolled_safe y))

-- the same beside others of which one calculates
pub evaluated_of : (c : Bool) (e : Expr) → (has_arithmetic e ≡ true → c ≡ true) → (p : Place) → OnlyDataOf c (meaning_of e p)
evaluated_of c e can p = wider (has_arithmetic e) c can (meaning_of e p) (calculated e p)

-- ---- whatever calculates

abbrev pub OnlyData : {A : Type 0} → Checked A → Type 0
OnlyData r = OnlyDataOf true r

pub bind_data : {A B : Type 0} (r : Checked A) (f : A → Checked B) → OnlyData r → ((a : A) → OnlyData (f a)) → OnlyData (r >>= f)
bind_data r f h g = bind_of true r f h g

pub evaluated_data : (e : Expr) (p : Place) → OnlyData (meaning_of e p)
evaluated_data e p = evaluated_of true e (λ t. refl) p
