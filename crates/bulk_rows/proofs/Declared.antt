-- Each table that a plain bulk statement names is declared.
use Rattle.std.proofs.Common.{List, [], ◌∷◌, map, Option, Some, None}
use Rattle.std.specs.List.{AllByRecursion}
use Rattle.base_core.specs.declared.ids.ColumnNo.{ColumnNo}
use Rattle.base_core.specs.declared.ids.TableId.{TableId}
use Rattle.base_core.specs.declared.refusal.Refusal.{Refusal}
use Rattle.base_core.specs.declared.refusal.Refusal.TheVariants.{OperationalError}
use Rattle.schema_core.specs.Catalog.{Catalog}
use Rattle.expr_types.specs.declared.expr.Expr.{Expr}
use Rattle.expr_types.specs.declared.select.Bulk.{Bulk}
use Rattle.expr_types.specs.declared.select.Bulk.TheVariants as bulk
use Rattle.sql_semantics.specs.Plain.{IfSet, IsFilter, IsPlainBulk, IsWritten, alone}
use Rattle.sql_semantics.specs.SelectRefusals.{IsOfDeclared}
use Rattle.sql_semantics.specs.Rows.{flat, named_where}
use Rattle.select_rows.proofs.Declared.{AreTables, both_tables, filter_tables, stands_tables, table_among}
use Rattle.sql_semantics.specs.Applied.{named_in}
use Rattle.sql_semantics.specs.BulkRefusals.{CanRefuse, tables_of}

abbrev Cell : Type 0
Cell = ColumnNo × Option Expr

cell_tables : (schema : Catalog) (table : TableId) (column : ColumnNo) (o : Option Expr) → IfSet (IsWritten schema table column) o → AreTables schema (named_where o)
cell_tables schema table column None h = tt
cell_tables schema table column (Some e) h = stands_tables schema (alone table) e h.stands

cells_tables : (schema : Catalog) (table : TableId) (cells : List Cell) → AllByRecursion (λ (cell : Cell). IfSet (IsWritten schema table cell.0) cell.1) cells → AreTables schema (flat (map (λ (cell : Cell). named_where cell.1) cells))
cells_tables schema table [] h = tt
cells_tables schema table (cell ∷ cells) h =
    both_tables schema (named_where cell.1) (flat (map (λ (other : Cell). named_where other.1) cells)) (cell_tables schema table cell.0 cell.1 h.0) (cells_tables schema table cells h.1)

named_tables : (schema : Catalog) (table : TableId) (cells : List Cell) (filter : Option Expr) → AllByRecursion (λ (cell : Cell). IfSet (IsWritten schema table cell.0) cell.1) cells → IfSet (IsFilter schema (alone table)) filter → AreTables schema (named_in cells filter)
named_tables schema table cells filter h g = both_tables schema (flat (map (λ (cell : Cell). named_where cell.1) cells)) (named_where filter) (cells_tables schema table cells h) (filter_tables schema (alone table) filter g)

-- each table that a plain bulk statement names is declared
pub bulk_tables : (schema : Catalog) (s : Bulk) → IsPlainBulk schema s → AreTables schema (tables_of s)
bulk_tables schema (bulk.Insert table columns values) h = (h.0, tt)
bulk_tables schema (bulk.Update table cells filter) h = (h.0, named_tables schema table cells filter h.3 h.4)
bulk_tables schema (bulk.Delete table filter) h = (h.0, named_tables schema table [] filter tt h.1)

-- a table that refuses a plain bulk statement is declared
pub declared_bulk : (schema : Catalog) (s : Bulk) (e : Refusal) → IsPlainBulk schema s → CanRefuse s e → IsOfDeclared schema e
declared_bulk schema s (OperationalError table) plain h = table_among schema table (tables_of s) (bulk_tables schema s plain) h
declared_bulk schema s e plain h = tt
