-- The tests of a bulk statement hold exactly where it fits its table, and where a keeper may be sent it.
use Rattle.std.proofs.Common.{◌≡◌, Bool, true, false, not, ◌&&◌, ◌||◌, ◌==◌, ◌↔◌, IsTrue, List, [], ◌∷◌, map, Option, Some, None, is_some, Ok, refl, sym, ap, ◌∙◌}
use Rattle.std.proofs.lemmas.Bool.{and_from, and_parts}
use Rattle.std.specs.List.{list_all, list_any, AllByRecursion}
use Rattle.std.specs.Cmp.Lexicographic.{pointwise}
use Rattle.base_core.specs.declared.ids.TableId.{TableId}
use Rattle.base_core.specs.declared.ids.ColumnNo.{ColumnNo}
use Rattle.base_core.specs.declared.value.Value.{Value}
use Rattle.base_core.specs.declared.value.Kind.{Kind}
use Rattle.schema_core.specs.declared.table.ColumnSpec.{ColumnSpec}
use Rattle.schema_core.specs.Catalog.{Catalog, kind_of}
use Rattle.schema_core.specs.Declaration.{some_two}
use Rattle.expr_types.specs.declared.expr.Expr.{Expr}
use Rattle.expr_types.specs.declared.select.Bulk.{Bulk}
use Rattle.expr_types.specs.declared.select.Bulk.TheVariants as bulk
use Rattle.sql_semantics.specs.Kinds.{column_in, expression_kind}
use Rattle.sql_semantics.specs.Plain.{IfSet, IsFilter, IsPlainBulk, IsWritten, StandsIn, alone, are_apart, are_for, has_column, is_free_column, is_key_column, is_kind_where, lacks_aggregate}
use Rattle.sql_semantics.specs.PlainStatement.{IsFittingBulk}
use Rattle.expr_scopes.specs.Scopes as scopes
use Rattle.plain_statements.specs.Tested as test
use Rattle.plain_statements.proofs.Conditions.{Tells, each, if_there, row_condition, standing_as, known}
use Rattle.expr_scopes.proofs.Neither.{not_either}

-- ---- columns and values

for_each : (schema : Catalog) (table : TableId) (columns : List ColumnNo) (values : List Value) → pointwise (scopes.is_for schema table) columns values ≡ are_for schema table columns values
for_each schema table [] [] = refl
for_each schema table [] (v ∷ values) = refl
for_each schema table (c ∷ columns) [] = refl
for_each schema table (c ∷ columns) (v ∷ values) = ap (λ b. scopes.is_for schema table c v && b) (for_each schema table columns values)

apart : (columns : List ColumnNo) → not (some_two (λ other column. other.0 == column.0) columns) ≡ are_apart columns
apart [] = refl
apart (c ∷ columns) = sym (not_either (has_column columns c) (some_two (λ (other column : ColumnNo). other.0 == column.0) columns)) ∙ ap (λ b. not (has_column columns c) && b) (apart columns)

named : (cells : List (ColumnNo × Option Expr)) (column : ColumnNo) → list_any (λ other. other.0.0 == column.0) cells ≡ has_column (map (λ cell. cell.0) cells) column
named [] column = refl
named (cell ∷ cells) column = ap (λ b. (cell.0.0 == column.0) || b) (named cells column)

cells_apart : (cells : List (ColumnNo × Option Expr)) → not (some_two (λ other cell. other.0.0 == cell.0.0) cells) ≡ are_apart (map (λ cell. cell.0) cells)
cells_apart [] = refl
cells_apart (cell ∷ cells) =
    sym (not_either (list_any (λ (other : ColumnNo × Option Expr). other.0.0 == cell.0.0) cells) (some_two (λ (other one : ColumnNo × Option Expr). other.0.0 == one.0.0) cells))
    ∙ ap (λ b. not b && not (some_two (λ (other one : ColumnNo × Option Expr). other.0.0 == one.0.0) cells)) (named cells cell.0)
    ∙ ap (λ b. not (has_column (map (λ (c : ColumnNo × Option Expr). c.0) cells) cell.0) && b) (cells_apart cells)

-- a column that is free is there
free_there : (c : Option ColumnSpec) → not (is_key_column c) ≡ true → is_some c ≡ true
free_there (Some c) h = refl
free_there None h = absurd (cc)

all_there : (schema : Catalog) (table : TableId) (cells : List (ColumnNo × Option Expr)) → list_all (λ cell. is_free_column schema table cell.0) cells ≡ true
    → list_all (λ cell. is_some (column_in schema (table ∷ []) 0 cell.0)) cells ≡ true
all_there schema table [] h = refl
all_there schema table (cell ∷ cells) h =
    let both = and_parts (is_free_column schema table cell.0) (list_all (λ (c : ColumnNo × Option Expr). is_free_column schema table c.0) cells) h in
    and_from (is_some (column_in schema (table ∷ []) 0 cell.0)) (list_all (λ (c : ColumnNo × Option Expr). is_some (column_in schema (table ∷ []) 0 c.0)) cells)
    (free_there (column_in schema (table ∷ []) 0 cell.0) both.0) (all_there schema table cells both.1)

-- ---- expressions

abbrev OfKind : Catalog → TableId → Option ColumnSpec → Expr → Type 0
OfKind schema table c e = StandsIn schema (alone table) e × (kind : Kind) × (expression_kind schema e (table ∷ []) ≡ Ok kind) × is_kind_where c kind

at_column : (schema : Catalog) (table : TableId) (c : Option ColumnSpec) (e : Expr) → Tells (test.stands_at schema (table ∷ []) (test.names_alone schema table) c e) (OfKind schema table c e)
at_column schema table (Some c) e =
    let one = standing_as schema (alone table) (kind_of c.kind) e in
    record {
      told = λ h. let s = one.told h in (s.0, kind_of c.kind, s.1, refl);
      holds = λ k. one.holds (k.0, k.2 ∙ ap Ok k.3);
    }
at_column schema table None e = record { told = λ h. absurd (cc); holds = λ k. absurd k.3 }

written : (schema : Catalog) (table : TableId) (column : ColumnNo) (e : Expr) → Tells (test.is_written schema table (test.names_alone schema table) column e) (IsWritten schema table column e)
written schema table column e =
    let c : Option ColumnSpec = column_in schema (table ∷ []) 0 column in
    let first : Bool = test.stands_at schema (table ∷ []) (test.names_alone schema table) c e in
    let at : Tells first (OfKind schema table c e) = at_column schema table c e in
    record {
      told = λ h. let both = and_parts first (lacks_aggregate e) h in let k = at.told both.0 in record { stands = k.0; no_aggregate = both.1; of_kind = (k.1, k.2, k.3) };
      holds = λ w. and_from first (lacks_aggregate e) (at.holds (w.stands, w.of_kind.0, w.of_kind.1, w.of_kind.2)) w.no_aggregate;
    }

cell_told : (schema : Catalog) (table : TableId) (cell : ColumnNo × Option Expr) → Tells (test.is_cell schema table (test.names_alone schema table) cell) (IfSet (IsWritten schema table cell.0) cell.1)
cell_told schema table cell = if_there (test.is_written schema table (test.names_alone schema table) cell.0) (IsWritten schema table cell.0) (written schema table cell.0) cell.1

filtered : (schema : Catalog) (table : TableId) (filter : Option Expr) → Tells (test.is_bulk_filter schema table filter) (IfSet (IsFilter schema (alone table)) filter)
filtered schema table filter = if_there (test.is_filter schema (table ∷ []) (test.names_alone schema table)) (IsFilter schema (alone table)) (row_condition schema (alone table)) filter

-- ---- statements

abbrev Cells : Catalog → TableId → List (ColumnNo × Option Expr) → Type 0
Cells schema table cells = AllByRecursion (λ cell. IfSet (IsWritten schema table cell.0) cell.1) cells

cells_told : (schema : Catalog) (table : TableId) (cells : List (ColumnNo × Option Expr)) → Tells (list_all (test.is_cell schema table (test.names_alone schema table)) cells) (Cells schema table cells)
cells_told schema table cells = each (test.is_cell schema table (test.names_alone schema table)) (λ cell. IfSet (IsWritten schema table cell.0) cell.1) (cell_told schema table) cells

fitting : (schema : Catalog) (b : Bulk) → Tells (test.fitting_bulk schema b) (IsFittingBulk schema b)
fitting schema (bulk.Insert table columns values) = record {
  told = λ h.
      let both = and_parts (scopes.is_known schema table) (pointwise (scopes.is_for schema table) columns values) h in
      ((known schema table).told both.0, sym (for_each schema table columns values) ∙ both.1);
  holds = λ f. and_from (scopes.is_known schema table) (pointwise (scopes.is_for schema table) columns values) ((known schema table).holds f.0) (for_each schema table columns values ∙ f.1);
}
fitting schema (bulk.Update table cells filter) =
    let there : Bool = list_all (λ (cell : ColumnNo × Option Expr). is_some (column_in schema (table ∷ []) 0 cell.0)) cells in
    let write : Bool = list_all (test.is_cell schema table (test.names_alone schema table)) cells in
    let where_ : Bool = test.is_bulk_filter schema table filter in
    record {
      told = λ h.
          let a = and_parts (scopes.is_known schema table) (there && write && where_) h in
          let b = and_parts (there && write) where_ a.1 in
          let c = and_parts there write b.0 in
          ((known schema table).told a.0, c.0, (cells_told schema table cells).told c.1, (filtered schema table filter).told b.1);
      holds = λ f.
          and_from (scopes.is_known schema table) (there && write && where_) ((known schema table).holds f.0)
          (and_from (there && write) where_ (and_from there write f.1 ((cells_told schema table cells).holds f.2)) ((filtered schema table filter).holds f.3));
    }
fitting schema (bulk.Delete table filter) = record {
  told = λ h. let both = and_parts (scopes.is_known schema table) (test.is_bulk_filter schema table filter) h in ((known schema table).told both.0, (filtered schema table filter).told both.1);
  holds = λ f. and_from (scopes.is_known schema table) (test.is_bulk_filter schema table filter) ((known schema table).holds f.0) ((filtered schema table filter).holds f.1);
}

abbrev kept : Catalog → Bulk → Bool
kept schema b = test.sparing_bulk schema b && test.fitting_bulk schema b

spared : (schema : Catalog) (b : Bulk) → test.sparing_bulk schema b ≡ true → IsFittingBulk schema b → IsPlainBulk schema b
spared schema (bulk.Insert table columns values) h f = (f.0, sym (apart columns) ∙ h, f.1)
spared schema (bulk.Update table cells filter) h f =
    let both = and_parts (not (some_two (λ (other cell : ColumnNo × Option Expr). other.0.0 == cell.0.0) cells)) (list_all (λ (cell : ColumnNo × Option Expr). is_free_column schema table cell.0) cells) h in
    (f.0, sym (cells_apart cells) ∙ both.0, both.1, f.2, f.3)
spared schema (bulk.Delete table filter) h f = f

spares : (schema : Catalog) (b : Bulk) → IsPlainBulk schema b → (test.sparing_bulk schema b ≡ true) × IsFittingBulk schema b
spares schema (bulk.Insert table columns values) p = (apart columns ∙ p.1, (p.0, p.2))
spares schema (bulk.Update table cells filter) p = (
  and_from (not (some_two (λ (other cell : ColumnNo × Option Expr). other.0.0 == cell.0.0) cells)) (list_all (λ (cell : ColumnNo × Option Expr). is_free_column schema table cell.0) cells)
      (cells_apart cells ∙ p.1) p.2,
  (p.0, all_there schema table cells p.2, p.3, p.4),
)
spares schema (bulk.Delete table filter) p = (refl, p)

pub fitting_decided : (schema : Catalog) (it : Bulk) (b : Bool) → b ≡ test.fitting_bulk schema it → IsTrue b ↔ IsFittingBulk schema it
fitting_decided schema it b is = ((λ h. (fitting schema it).told (sym is ∙ h)), (λ f. is ∙ (fitting schema it).holds f))

pub keeps : (schema : Catalog) (it : Bulk) (b : Bool) → test.sparing_bulk schema it ≡ true → b ≡ test.fitting_bulk schema it → IsTrue b ↔ IsPlainBulk schema it
keeps schema it b h is = ((λ t. spared schema it h ((fitting schema it).told (sym is ∙ t))), (λ p. is ∙ (fitting schema it).holds (spares schema it p).1))

pub refuses : (schema : Catalog) (it : Bulk) → test.sparing_bulk schema it ≡ false → IsTrue false ↔ IsPlainBulk schema it
refuses schema it h = ((λ t. absurd (cc)), (λ p. sym h ∙ (spares schema it p).0))

pub ruleset plain_decided = (keeps, refuses)
