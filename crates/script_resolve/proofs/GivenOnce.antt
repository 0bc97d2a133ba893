-- A bulk statement without a fault gives each column once.
use Rattle.std.proofs.Common.{◌≡◌, ℕ, Bool, true, false, not, ◌||◌, ◌==◌, List, [], ◌∷◌, ◌++◌, map, length, get_or, Option, Some, refl, sym, ap, subst, ◌∙◌}
use Rattle.std.proofs.lemmas.Bool.{and_from, eqb-true}
use Rattle.std.proofs.lemmas.List.Folds.{list_any-append}
use Rattle.std.specs.Option.{unwrap_or}
use Rattle.base_core.specs.declared.ids.ColumnNo.{ColumnNo}
use Rattle.schema_core.specs.declared.table.TableSpec.{TableSpec}
use Rattle.schema_core.specs.Catalog.{Catalog, has_name, same_name}
use Rattle.schema_core.proofs.Names.{name_itself, same_names}
use Rattle.sql_semantics.specs.Plain.{are_apart, has_column}
use Rattle.expr_types.specs.declared.expr.Expr.{Expr}
use Rattle.expr_types.specs.NormalSelect.{normal_where}
use Rattle.script_types.specs.declared.expression.Syn.{Syn}
use Rattle.statement_names.specs.BulkNames.{cell_faults, cells_faults, column_faults, column_number, columns_faults, named_cell}
use Rattle.script_names.specs.Faults.{faults_if_given}
use Rattle.script_names.specs.Naming.{name_faults}
use Rattle.script_names.specs.Scopes.{Scope, find_column}
use Rattle.script_resolve.proofs.BulkFits.{column_there}
use Rattle.script_resolve.proofs.Columns.{found_column, no_column}
use Rattle.script_resolve.proofs.Parts.{nil_parts}

-- ---- names

-- two names of one column are one name
one_name : (spec : TableSpec) (x y : List ℕ) (c d : ColumnNo) → find_column spec x ≡ Some c → find_column spec y ≡ Some d → (c.0 == d.0) ≡ true → x ≡ y
one_name spec x y c d fx fy e =
    let at : c.0 ≡ d.0 = eqb-true c.0 d.0 e in
    let hx : same_name (get_or spec.columns d.0 no_column).name x ≡ true = subst (λ (n : ℕ). same_name (get_or spec.columns n no_column).name x ≡ true) at (found_column spec x c fx).1 in
    sym (same_names _ x hx) ∙ same_names _ y (found_column spec y d fy).1

either : (a b : Bool) → a ≡ false → b ≡ false → (a || b) ≡ false
either a b h g = ap (λ c. c || b) h ∙ g

-- ---- columns

-- a name that stands before the others is of another column than each of them
not_again : (spec : TableSpec) (x : List ℕ) (c : ColumnNo) → find_column spec x ≡ Some c → (before : List (List ℕ)) (names : List (List ℕ)) → has_name before x ≡ true
    → columns_faults spec before names ≡ [] → has_column (map (column_number spec) names) c ≡ false
not_again spec x c fx before [] has free = refl
not_again spec x c fx before (y ∷ names) has free =
    let f = nil_parts (column_faults spec before y) (columns_faults spec (before ++ y ∷ []) names) free in
    let there = column_there spec before y f.0 in
    let number : column_number spec y ≡ there.0 = ap (λ (o : Option ColumnNo). unwrap_or o (record { 0 = length spec.columns })) there.1 in
    let other : (there.0.0 == c.0) ≡ false = differs (there.0.0 == c.0) (λ e. one_name spec y x there.0 c there.1 fx e) there.2 in
    let still : has_name (before ++ y ∷ []) x ≡ true = list_any-append (λ (n : List ℕ). same_name n x) before (y ∷ []) ∙ ap (λ b. b || (same_name y x || false)) has in
    either ((column_number spec y).0 == c.0) (has_column (map (column_number spec) names) c) (ap (λ (d : ColumnNo). d.0 == c.0) number ∙ other) (not_again spec x c fx (before ++ y ∷ []) names still f.1)
  where
    differs : (b : Bool) → (b ≡ true → y ≡ x) → has_name before y ≡ false → b ≡ false
    differs false g h = refl
    differs true g h = let e = g refl in let clash : has_name before y ≡ true = ap (has_name before) e ∙ has in absurd cc

pub columns_once : (spec : TableSpec) (before names : List (List ℕ)) → columns_faults spec before names ≡ [] → are_apart (map (column_number spec) names) ≡ true
columns_once spec before [] free = refl
columns_once spec before (x ∷ names) free =
    let f = nil_parts (column_faults spec before x) (columns_faults spec (before ++ x ∷ []) names) free in
    let there = column_there spec before x f.0 in
    let number : column_number spec x ≡ there.0 = ap (λ (o : Option ColumnNo). unwrap_or o (record { 0 = length spec.columns })) there.1 in
    let has : has_name (before ++ x ∷ []) x ≡ true = list_any-append (λ (n : List ℕ). same_name n x) before (x ∷ []) ∙ last (has_name before x) (same_name x x) (name_itself x) in
    and_from (not (has_column (map (column_number spec) names) (column_number spec x))) (are_apart (map (column_number spec) names)) (ap not (ap (has_column (map (column_number spec) names)) number ∙ not_again spec x there.0 there.1 (before ++ x ∷ []) names has f.1)) (columns_once spec (before ++ x ∷ []) names f.1)
  where
    last : (a b : Bool) → b ≡ true → (a || (b || false)) ≡ true
    last true b h = refl
    last false b h = ap (λ c. c || false) h

-- ---- cells

columns_free : (schema : Catalog) (spec : TableSpec) (scope : Scope) (before : List (List ℕ)) (cells : List (List ℕ × Option Syn)) → cells_faults schema spec scope before cells ≡ [] → columns_faults spec before (map (λ (c : List ℕ × Option Syn). c.0) cells) ≡ []
columns_free schema spec scope before [] free = refl
columns_free schema spec scope before (cell ∷ cells) free =
    let g = nil_parts (cell_faults schema spec scope before cell) (cells_faults schema spec scope (before ++ cell.0 ∷ []) cells) free in
    let f = nil_parts (column_faults spec before cell.0) (faults_if_given (λ e. name_faults schema e scope) cell.1) g.0 in
    ap (λ fs. fs ++ columns_faults spec (before ++ cell.0 ∷ []) (map (λ (c : List ℕ × Option Syn). c.0) cells)) f.0 ∙ columns_free schema spec scope (before ++ cell.0 ∷ []) cells g.1

pub cells_once : (schema : Catalog) (spec : TableSpec) (scope : Scope) (cells : List (List ℕ × Option Syn)) → cells_faults schema spec scope [] cells ≡ []
    → are_apart (map (λ (c : ColumnNo × Option Expr). c.0) (map (λ (c : ColumnNo × Option Expr). (c.0, normal_where c.1)) (map (named_cell schema spec scope) cells))) ≡ true
cells_once schema spec scope cells free = ap are_apart (same cells) ∙ columns_once spec [] (map (λ (c : List ℕ × Option Syn). c.0) cells) (columns_free schema spec scope [] cells free)
  where
    same : (cs : List (List ℕ × Option Syn)) → map (λ (c : ColumnNo × Option Expr). c.0) (map (λ (c : ColumnNo × Option Expr). (c.0, normal_where c.1)) (map (named_cell schema spec scope) cs)) ≡ map (column_number spec) (map (λ (c : List ℕ × Option Syn). c.0) cs)
    same [] = refl
    same (c ∷ cs) = ap (λ ns. column_number spec c.0 ∷ ns) (same cs)
