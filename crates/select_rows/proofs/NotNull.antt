-- In the rows of a plain select over legal tables no value is NULL of a column that takes none, unless its source is left-joined.
use Rattle.std.proofs.Common.{◌≡◌, ℕ, suc, ◌+◌, Bool, true, false, not, ◌&&◌, List, Option, Some, None, Result, Ok, Err, IfOk, length, nat_lt, arith, refl, sym, subst, ◌∙◌, slice_get}
use Rattle.std.proofs.lemmas.Bool.{and_parts}
use Rattle.base_core.specs.declared.ids.ColumnNo.{ColumnNo}
use Rattle.base_core.specs.declared.value.Value.{Value}
use Rattle.base_core.specs.declared.value.Value.TheVariants as value
use Rattle.base_core.specs.declared.refusal.Refusal.{Refusal}
use Rattle.schema_core.specs.declared.table.ColumnSpec.{ColumnSpec}
use Rattle.schema_core.specs.Catalog.{Catalog, is_required}
use Rattle.schema_core.specs.Tables.{fits, is_null}
use Rattle.expr_types.specs.declared.expr.Expr.{Expr, roll-Expr}
use Rattle.expr_types.specs.declared.expr.Expr.TheOpen.{Expr-F}
use Rattle.expr_types.specs.declared.expr.Expr.TheFolds.{ind-Expr, map-Expr, fold-roll-Expr}
use Rattle.expr_types.specs.declared.select.Joined.{Joined}
use Rattle.expr_types.specs.declared.select.Select.{Select}
use Rattle.sql_semantics.specs.Kinds.{column_in}
use Rattle.sql_semantics.specs.Plain.{Found, IsPlainSelect, is_well_grouped_level}
use Rattle.base_core.specs.Answers.{Gives}
use Rattle.sql_semantics.specs.Checked.{Checked}
use Rattle.sql_semantics.specs.Eval.{Meaning, Place, Row, Tables, after, meaning_of, meaning}
use Rattle.sql_semantics.specs.Rows.{answer}
use Rattle.sql_semantics.specs.Shapes.{AreGiven, AreLegalRows, IsGiven, is_inner, is_inner_join, is_never_null, is_required_level, scope_of, takes_no_null}
use Rattle.select_sources.proofs.Columns.{Fits, HoldsNulls, Property, column_read, not_both}
use Rattle.select_rows.proofs.Items.{Settled, rows_sure}
use Rattle.sql_semantics.proofs.Equations.{rolled, settled_rolled, with_settled}
use Rattle.select_sources.proofs.Sure.{Sure}

-- a value is not NULL of a column that takes none, where its source is not left-joined
abbrev GivenAt : Select → Property
GivenAt s source column v = is_inner s source ≡ true → is_required column ≡ true → is_null v ≡ false

held_given : (s : Select) (source : ℕ) (column : ColumnSpec) (v : Value) → fits column v ≡ true → GivenAt s source column v
held_given s source column value.Null h inner required = absurd (not_both (is_required column) required h)
held_given s source column (value.Bool b) h inner required = refl
held_given s source column (value.Int n) h inner required = refl
held_given s source column (value.Text t) h inner required = refl
held_given s source column (value.Bytes b) h inner required = refl

null_given : (s : Select) (i : ℕ) (j : Joined) → slice_get s.joins i ≡ Some j → j.left ≡ true → (column : ColumnSpec) → GivenAt s (suc i) column value.Null
null_given s i j is l column inner required = absurd (not_both j.left l (subst (λ (o : Option Joined). is_inner_join o ≡ true) is inner))

nulls_given : (s : Select) → HoldsNulls (GivenAt s) 1 s.joins
nulls_given s i j is l column = let place : suc i ≡ 1 + i = omega arith in subst (λ k. GivenAt s k column value.Null) place (null_given s i j is l column)

-- ---- expressions

-- what is said where the test is true
abbrev Where : Bool → Value → Type 0
Where b v = b ≡ true → is_null v ≡ false

nowhere : (r : Checked Value) → Sure (Where false) r
nowhere (Ok v) = λ e. absurd (cc)
nowhere (Err f) = tt

never : (b : Bool) → not (b && false) ≡ true
never true = refl
never false = refl

column_given : (schema : Catalog) (s : Select) (p : Place) (blind : Bool) (source : ℕ) (c : ColumnNo) (o : Option ColumnSpec) → column_in schema (scope_of s) source c ≡ o → Fits (GivenAt s) schema (scope_of s) p blind
    → (blind ≡ true → not (nat_lt source (length (scope_of s))) ≡ true) → Where (is_inner s source && takes_no_null o) (after p.row c.0 (slice_get p.starts source))
column_given schema s p blind source c (Some column) is h apart e =
    let both = and_parts (is_inner s source) (is_required column) e in column_read (GivenAt s) schema (scope_of s) p blind source c column h apart is both.0 both.1
column_given schema s p blind source c None is h apart e = absurd (not_both (is_inner s source && false) e (never (is_inner s source)))

level : (x : Expr-F Expr) (schema : Catalog) (s : Select) (p : Place) (blind : Bool) → Fits (GivenAt s) schema (scope_of s) p blind
    → (blind ≡ true → is_well_grouped_level true (length (scope_of s)) (map-Expr Expr Found (with_settled (length (scope_of s))) x) ≡ true)
    → Sure (Where (is_required_level schema s (map-Expr Expr Bool (is_never_null schema s) x))) (meaning (map-Expr Expr Meaning meaning_of x) p)
level (Expr-F.Column source c) schema s p blind h a =
    let apart : Bool = not (nat_lt source (length (scope_of s))) in
    column_given schema s p blind source c (column_in schema (scope_of s) source c) refl h (λ b. (and_parts apart true (and_parts (apart && true) true (a b)).0).0)
level x schema s p blind h a = nowhere (meaning (map-Expr Expr Meaning meaning_of x) p)

never_rolled : (schema : Catalog) (s : Select) (x : Expr-F Expr) → is_never_null schema s (roll-Expr x) ≡ is_required_level schema s (map-Expr Expr Bool (is_never_null schema s) x)
unfolding is_never_null
never_rolled schema s x = fold-roll-Expr Bool (is_required_level schema s) x

abbrev Claim : Expr → Type 0
Claim e = (schema : Catalog) (s : Select) (p : Place) (blind : Bool) → Fits (GivenAt s) schema (scope_of s) p blind → Settled s blind e → Sure (IsGiven schema s e) (meaning_of e p)

step : (x : Expr-F Expr) → Claim (roll-Expr x)
step x schema s p blind h a =
    subst (λ (b : Bool). Sure (Where b) (meaning_of (roll-Expr x) p)) (sym (never_rolled schema s x))
    (subst (λ (m : Meaning). Sure (Where (is_required_level schema s (map-Expr Expr Bool (is_never_null schema s) x))) (m p)) (sym (rolled x))
    (level x schema s p blind h (λ b. sym (settled_rolled (length (scope_of s)) x) ∙ a b)))

given_sure : (e : Expr) → Claim e
given_sure = ind-Expr Claim (λ x y is. step x)

-- in the rows of a plain select no value is NULL where the item never is
pub rows_given : (schema : Catalog) (tables : Tables) (s : Select) (r : Result (List Row) Refusal) → Gives (λ (x : List Row). x) r (answer schema tables s) → IsPlainSelect schema s → AreLegalRows schema tables → IfOk r (λ rows. AreGiven schema s rows)
rows_given schema tables s r g plain a =
    rows_sure (GivenAt s) (IsGiven schema s) schema s plain (λ e p blind h stands b. given_sure e schema s p blind h b) fits (held_given s) (nulls_given s) tables a r g
