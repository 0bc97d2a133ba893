-- Conditions over columns alone refuse nothing: what they are at rows of sources.
use Rattle.std.proofs.Common.{◌≡◌, Bool, true, false, ◌&&◌, List, [], ◌∷◌, ◌++◌, map, Ok, refl, sym, ap, ◌∙◌}
use Rattle.std.specs.Prelude.{is_some}
use Rattle.std.specs.List.{AllByRecursion, list_all, list_any}
use Rattle.base_core.specs.declared.value.Value.{Value}
use Rattle.schema_core.specs.Catalog.{Catalog}
use Rattle.expr_types.specs.declared.expr.CompareOp.TheVariants as op
use Rattle.expr_types.specs.declared.expr.Expr.{Expr}
use Rattle.sql_semantics.specs.Checked.{Checked, ◌>>=◌}
use Rattle.sql_semantics.specs.Truth.{all3, passes, truth_of, value_of}
use Rattle.sql_semantics.specs.Eval.{Meaning, Place, Row, Tables, all_from, among, column, comparison_truth, meaning_of, truth}
use Rattle.sql_semantics.specs.Kinds.{Scope, column_in}
use Rattle.sql_semantics.proofs.Equations.{evaluated-Compare}
use Rattle.load_columns.specs.declared.placing.SourceColumn.{SourceColumn}
use Rattle.load_columns.specs.Conditions.{column_of, conjoined, equal_column, equal_columns, is_in}
use Rattle.loading_laws.specs.Answers.Equal.{are_equal}
use Rattle.loading_laws.proofs.Answers.Totals.{IsTest}
use Rattle.loading_laws.proofs.Answers.Values.{all_pass, all_value, column_value, equal_passes, equal_value, in_passes, in_value}
use Rattle.loading_laws.specs.Wide.Parts.{all_hold, cell, holds_at, is_true, place_of}
use Rattle.loading_laws.specs.Wide.Answers.{AreWideIn}
use Rattle.loading_laws.proofs.Wide.Places.{column_is}

-- ---- what has a value everywhere

abbrev pub IsTotal : Expr → Type 0
IsTotal e = (p : Place) → (v : Value) × (meaning_of e p ≡ Ok v)

equality_is : (one other : SourceColumn) (p : Place) → meaning_of (equal_column one other) p ≡ Ok (equal_value (column p one.source one.column.0) (column p other.source other.column.0))
equality_is one other p =
    ap (λ (m : Meaning). m p) (evaluated-Compare op.Equal (column_of one) (column_of other))
    ∙ both (meaning_of (column_of one) p) (meaning_of (column_of other) p) (column p one.source one.column.0) (column p other.source other.column.0) (column_value one.source one.column p) (column_value other.source other.column p)
  where
    both : (x y : Checked Value) (v w : Value) → x ≡ Ok v → y ≡ Ok w → ((x >>= λ a. y >>= λ b. let pair : Checked (Value × Value) = Ok (a, b) in pair) >>= λ q. truth (comparison_truth op.Equal q.0 q.1)) ≡ Ok (equal_value v w)
    both x y v w e f = rw (e, f) refl

equality_total : (one other : SourceColumn) → IsTotal (equal_column one other)
equality_total one other p = (equal_value (column p one.source one.column.0) (column p other.source other.column.0), equality_is one other p)

pub equalities_total : (ones others : List SourceColumn) → AllByRecursion IsTotal (equal_columns ones others)
equalities_total [] others = tt
equalities_total (one ∷ ones) [] = tt
equalities_total (one ∷ ones) (other ∷ others) = (equality_total one other, equalities_total ones others)

pub in_total : (one : SourceColumn) (values : List Value) → IsTotal (is_in one values)
in_total one values p = (value_of (among (column p one.source one.column.0) values), in_value one.source one.column values p)

-- ---- lists of such conditions

values_at : (p : Place) (es : List Expr) → AllByRecursion IsTotal es → List Value
values_at p [] h = []
values_at p (e ∷ es) h = (h.0 p).0 ∷ values_at p es h.1

values_are : (p : Place) (es : List Expr) (total : AllByRecursion IsTotal es) (done : List Value) → all_from p done (map meaning_of es) ≡ Ok (done ++ values_at p es total)
unfolding values_at
values_are p [] h done = ap Ok (sym (append_nothing done))
  where
    append_nothing : (xs : List Value) → xs ++ [] ≡ xs
    append_nothing [] = refl
    append_nothing (x ∷ xs) = ap (λ (l : List Value). x ∷ l) (append_nothing xs)
values_are p (e ∷ es) h done =
    ap (λ (told : Checked Value). told >>= λ v. all_from p (done ++ v ∷ []) (map meaning_of es)) (h.0 p).1
    ∙ values_are p es h.1 (done ++ (h.0 p).0 ∷ []) ∙ ap Ok (append_one done)
  where
    append_one : (xs : List Value) → (xs ++ (h.0 p).0 ∷ []) ++ values_at p es h.1 ≡ xs ++ (h.0 p).0 ∷ values_at p es h.1
    append_one [] = refl
    append_one (x ∷ xs) = ap (λ (l : List Value). x ∷ l) (append_one xs)

all_passing : (tables : Tables) (rows : List Row) (es : List Expr) (total : AllByRecursion IsTotal es) → list_all passes (values_at (place_of tables rows) es total) ≡ all_hold tables es rows
unfolding values_at
all_passing tables rows [] h = refl
all_passing tables rows (e ∷ es) h =
    ap (λ (b : Bool). passes (h.0 (place_of tables rows)).0 && b) (all_passing tables rows es h.1)
    ∙ ap (λ (told : Checked Value). is_true told && all_hold tables es rows) (sym (h.0 (place_of tables rows)).1)

-- they are true together where each is
pub conjoined_tests : (tables : Tables) (es : List Expr) → AllByRecursion IsTotal es → (rows : List Row) → IsTest (λ (all : List Row). meaning_of (conjoined es) (place_of tables all)) (all_hold tables es) rows
conjoined_tests tables [] h rows = (value_of (all3 []), all_value [] [] (place_of tables rows) refl, refl)
conjoined_tests tables (e ∷ []) h rows =
    let told = h.0 (place_of tables rows) in
    (told.0, told.1, one_more (passes told.0) ∙ ap (λ (one : Checked Value). is_true one && true) (sym told.1))
  where
    one_more : (b : Bool) → b ≡ (b && true)
    one_more true = refl
    one_more false = refl
conjoined_tests tables (e ∷ d ∷ es) h rows =
    let p : Place = place_of tables rows in
    let vs : List Value = values_at p (e ∷ d ∷ es) h in (
      value_of (all3 (map truth_of vs)),
      all_value (e ∷ d ∷ es) vs p (values_are p (e ∷ d ∷ es) h []),
      all_pass vs ∙ all_passing tables rows (e ∷ d ∷ es) h,
    )

-- ---- by cells

abbrev pub IsColumnIn : Catalog → Scope → SourceColumn → Type 0
IsColumnIn schema scope column = is_some (column_in schema scope column.source column.column) ≡ true

-- two columns are equal where their cells are
pub equal_holds : (schema : Catalog) (scope : Scope) (tables : Tables) (rows : List Row) (one other : SourceColumn) → AreWideIn schema scope rows → IsColumnIn schema scope one → IsColumnIn schema scope other
    → holds_at tables (equal_column one other) rows ≡ are_equal (cell rows one, cell rows other)
equal_holds schema scope tables rows one other wide there too =
    ap is_true (equality_is one other (place_of tables rows))
    ∙ ap (λ (v : Value). passes (equal_value v (column (place_of tables rows) other.source other.column.0))) (column_is schema scope tables rows one.source one.column wide there)
    ∙ ap (λ (v : Value). passes (equal_value (cell rows one) v)) (column_is schema scope tables rows other.source other.column wide too) ∙ equal_passes (cell rows one) (cell rows other)

-- a column is among values where one of them equals its cell
pub in_holds : (schema : Catalog) (scope : Scope) (tables : Tables) (rows : List Row) (one : SourceColumn) (values : List Value) → AreWideIn schema scope rows → IsColumnIn schema scope one
    → holds_at tables (is_in one values) rows ≡ list_any (λ v. are_equal (cell rows one, v)) values
in_holds schema scope tables rows one values wide there =
    ap is_true (in_value one.source one.column values (place_of tables rows))
    ∙ ap (λ (v : Value). passes (value_of (among v values))) (column_is schema scope tables rows one.source one.column wide there) ∙ in_passes (cell rows one) values
