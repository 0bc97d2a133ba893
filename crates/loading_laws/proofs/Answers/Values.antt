-- The value of an equality, of `in`, and of lists of them, at any place: nothing is refused.
use Rattle.std.proofs.Common.{◌≡◌, ℕ, Bool, true, false, not, ◌&&◌, ◌||◌, List, [], ◌∷◌, map, Option, None, Some, Ok, if◌then◌else◌, refl, sym, ap, ◌∙◌, length, arith}
use Rattle.std.specs.List.{list_all, list_any}
use Rattle.std.specs.declared.cmp.Ordering.{Ordering}
use Rattle.std.specs.declared.cmp.Ordering.TheVariants.{Less, Equal, Greater}
use Rattle.std.specs.Ordering.{is_eq, ordering_then}
use Rattle.base_core.specs.declared.ids.ColumnNo.{ColumnNo}
use Rattle.base_core.specs.declared.value.Value.{Value}
use Rattle.base_core.specs.declared.value.Value.TheVariants as value
use Rattle.base_core.specs.Order.{same_value, value_cmp, values_cmp}
use Rattle.schema_core.specs.Tables.{has_null, is_null, same_values}
use Rattle.expr_types.specs.declared.expr.Expr.{Expr}
use Rattle.expr_types.specs.declared.expr.Expr.TheVariants as expr
use Rattle.expr_types.specs.declared.expr.CompareOp.TheVariants as op
use Rattle.sql_semantics.specs.Checked.{Checked, ◌>>=◌}
use Rattle.sql_semantics.specs.Truth.{all3, and3, any3, or3, passes, truth_of, value_of}
use Rattle.sql_semantics.specs.Eval.{Meaning, Place, all_from, among, column, comparison_truth, meaning_of, truth, two}
use Rattle.sql_semantics.proofs.Equations.{evaluated-And, evaluated-Column, evaluated-Compare, evaluated-InList, evaluated-Lit, evaluated-Or}
use Rattle.loading_laws.specs.Answers.Equal.{are_equal, equals_key}

-- ---- one level

pub column_value : (s : ℕ) (c : ColumnNo) (p : Place) → meaning_of (expr.Column s c) p ≡ Ok (column p s c.0)
column_value s c p = ap (λ (m : Meaning). m p) (evaluated-Column s c)

lit_value : (v : Value) (p : Place) → meaning_of (expr.Lit v) p ≡ Ok v
lit_value v p = ap (λ (m : Meaning). m p) (evaluated-Lit v)

abbrev both : Value → Value → Checked (Value × Value)
both v w = Ok (v, w)

two_values : (a b : Meaning) (f : Value → Value → Checked Value) (p : Place) (x y : Value) → a p ≡ Ok x → b p ≡ Ok y → two a b f p ≡ f x y
two_values a b f p x y ax by =
    ap (λ (r : Checked (Value × Value)). r >>= λ v. f v.0 v.1) (ap (λ (r : Checked Value). r >>= λ v. b p >>= both v) ax ∙ ap (λ (r : Checked Value). r >>= both x) by)

-- the value of an equality of two values
abbrev pub equal_value : Value → Value → Value
equal_value x y = value_of (comparison_truth op.Equal x y)

-- a column is compared with a value
pub equality_value : (s : ℕ) (c : ColumnNo) (v : Value) (p : Place) → meaning_of (expr.Compare op.Equal (expr.Column s c) (expr.Lit v)) p ≡ Ok (equal_value (column p s c.0) v)
equality_value s c v p =
    ap (λ (m : Meaning). m p) (evaluated-Compare op.Equal (expr.Column s c) (expr.Lit v))
    ∙ two_values (meaning_of (expr.Column s c)) (meaning_of (expr.Lit v)) (λ x y. truth (comparison_truth op.Equal x y)) p (column p s c.0) v (column_value s c p) (lit_value v p)

-- a column is looked for among values
pub in_value : (s : ℕ) (c : ColumnNo) (vs : List Value) (p : Place) → meaning_of (expr.InList false (expr.Column s c) vs) p ≡ Ok (value_of (among (column p s c.0) vs))
in_value s c vs p = ap (λ (m : Meaning). m p) (evaluated-InList false (expr.Column s c) vs) ∙ ap (λ (r : Checked Value). r >>= λ v. truth (among v vs)) (column_value s c p)

-- a list of conditions, all of them or some
pub all_value : (es : List Expr) (vs : List Value) (p : Place) → all_from p [] (map meaning_of es) ≡ Ok vs → meaning_of (expr.And es) p ≡ Ok (value_of (all3 (map truth_of vs)))
all_value es vs p told = ap (λ (m : Meaning). m p) (evaluated-And es) ∙ ap (λ (r : Checked (List Value)). r >>= λ ws. truth (all3 (map truth_of ws))) told

pub some_value : (es : List Expr) (vs : List Value) (p : Place) → all_from p [] (map meaning_of es) ≡ Ok vs → meaning_of (expr.Or es) p ≡ Ok (value_of (any3 (map truth_of vs)))
some_value es vs p told = ap (λ (m : Meaning). m p) (evaluated-Or es) ∙ ap (λ (r : Checked (List Value)). r >>= λ ws. truth (any3 (map truth_of ws))) told

-- ---- what passes

-- an equality passes where the values are equal as SQL sees it
pub equal_passes : (x y : Value) → passes (equal_value x y) ≡ are_equal (x, y)
equal_passes x y = by (is_null x) (is_null y) (same_value x y)
  where
    by : (b c d : Bool) → passes (value_of (if b || c then None else Some d)) ≡ (not b && (not c && d))
    by true c d = refl
    by false true d = refl
    by false false d = refl

and_passes : (t u : Option Bool) → passes (value_of (and3 t u)) ≡ (passes (value_of t) && passes (value_of u))
and_passes (Some true) u = refl
and_passes (Some false) u = refl
and_passes None (Some true) = refl
and_passes None (Some false) = refl
and_passes None None = refl

or_passes : (t u : Option Bool) → passes (value_of (or3 t u)) ≡ (passes (value_of t) || passes (value_of u))
or_passes (Some true) u = refl
or_passes (Some false) u = refl
or_passes None (Some true) = refl
or_passes None (Some false) = refl
or_passes None None = refl

truth_passes : (v : Value) → passes (value_of (truth_of v)) ≡ passes v
truth_passes value.Null = refl
truth_passes (value.Bool b) = refl
truth_passes (value.Int n) = refl
truth_passes (value.Text t) = refl
truth_passes (value.Bytes b) = refl

-- a list of conditions passes where all do, or where one does
pub all_pass : (vs : List Value) → passes (value_of (all3 (map truth_of vs))) ≡ list_all passes vs
all_pass [] = refl
all_pass (v ∷ vs) =
    and_passes (truth_of v) (all3 (map truth_of vs)) ∙ ap (λ b. b && passes (value_of (all3 (map truth_of vs)))) (truth_passes v) ∙ ap (λ b. passes v && b) (all_pass vs)

pub some_pass : (vs : List Value) → passes (value_of (any3 (map truth_of vs))) ≡ list_any passes vs
some_pass [] = refl
some_pass (v ∷ vs) =
    or_passes (truth_of v) (any3 (map truth_of vs)) ∙ ap (λ b. b || passes (value_of (any3 (map truth_of vs)))) (truth_passes v) ∙ ap (λ b. passes v || b) (some_pass vs)

-- `in` passes where one of the values is equal
pub in_passes : (x : Value) (vs : List Value) → passes (value_of (among x vs)) ≡ list_any (λ v. are_equal (x, v)) vs
in_passes x [] = refl
in_passes x (v ∷ vs) =
    or_passes (comparison_truth op.Equal x v) (among x vs) ∙ ap (λ b. b || passes (value_of (among x vs))) (equal_passes x v) ∙ ap (λ b. are_equal (x, v) || b) (in_passes x vs)

-- ---- keys

null_is_apart : (y : Value) → is_null y ≡ false → same_value value.Null y ≡ false
null_is_apart value.Null known = absurd cc
null_is_apart (value.Bool b) known = refl
null_is_apart (value.Int n) known = refl
null_is_apart (value.Text t) known = refl
null_is_apart (value.Bytes b) known = refl

-- of two values, the second of which is not NULL, sameness is all there is to an equality
equal_known : (x y : Value) → is_null y ≡ false → are_equal (x, y) ≡ same_value x y
equal_known value.Null y known = sym (null_is_apart y known)
equal_known (value.Bool b) y known = ap (λ n. not n && same_value (value.Bool b) y) known
equal_known (value.Int n) y known = ap (λ k. not k && same_value (value.Int n) y) known
equal_known (value.Text t) y known = ap (λ n. not n && same_value (value.Text t) y) known
equal_known (value.Bytes b) y known = ap (λ n. not n && same_value (value.Bytes b) y) known

then_eq : (a b : Ordering) → is_eq (ordering_then a b) ≡ (is_eq a && is_eq b)
then_eq Less b = refl
then_eq Equal b = refl
then_eq Greater b = refl

first_known : (a b : Bool) → (a || b) ≡ false → a ≡ false
first_known true b e = absurd cc
first_known false b e = refl

rest_known : (a b : Bool) → (a || b) ≡ false → b ≡ false
rest_known true b e = absurd cc
rest_known false b e = e

-- values equal a key without a NULL, one by one, exactly where they are the same as the key
pub equals_known : (xs key : List Value) → length xs ≡ length key → has_null key ≡ false → equals_key xs key ≡ same_values xs key
equals_known [] [] long known = refl
equals_known [] (y ∷ key) long known = absurd cc
equals_known (x ∷ xs) [] long known = absurd cc
equals_known (x ∷ xs) (y ∷ key) long known =
    ap (λ b. b && equals_key xs key) (equal_known x y (first_known (is_null y) (has_null key) known))
    ∙ ap (λ b. same_value x y && b) (equals_known xs key (omega (arith, long)) (rest_known (is_null y) (has_null key) known))
    ∙ sym (then_eq (value_cmp x y) (values_cmp xs key))
