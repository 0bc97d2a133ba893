-- The form of a statement in a dialect.
use Rattle.std.specs.Prelude.{ℕ, ◌++◌, List, [], ◌∷◌, map, Option, Some, None, pos, Bool, false, ◌&&◌, if◌then◌else◌}
use Rattle.std.specs.List.{list_all}
use Rattle.std.specs.Option.{option_map}
use Rattle.base_core.specs.declared.ids.TableId.{TableId}
use Rattle.base_core.specs.declared.value.Value.{Value}
use Rattle.base_core.specs.declared.value.Value.TheVariants as cell
use Rattle.schema_core.specs.declared.statement.RowStmt.{RowStmt}
use Rattle.schema_core.specs.declared.statement.RowStmt.TheVariants as row
use Rattle.schema_core.specs.declared.table.ColumnSpec.{ColumnSpec}
use Rattle.schema_core.specs.declared.table.TableSpec.{TableSpec}
use Rattle.schema_core.specs.Apply.{wants_key}
use Rattle.schema_core.specs.Catalog.{Catalog, spec_of}
use Rattle.expr_types.specs.declared.expr.Expr.{Expr}
use Rattle.expr_types.specs.declared.expr.Origin.{Origin}
use Rattle.expr_types.specs.declared.select.Bulk.{Bulk}
use Rattle.expr_types.specs.declared.select.Bulk.TheVariants as bulk
use Rattle.expr_types.specs.declared.select.Joined.{Joined}
use Rattle.expr_types.specs.declared.select.Select.{Select}
use Rattle.sql_semantics.specs.Plain.{alone, sources_of}
use Rattle.base_core.specs.declared.dialect.Dialect.{Dialect}
use Rattle.base_core.specs.declared.dialect.Dialect.TheVariants.{Sqlite, Postgresql, Mysql}
use Rattle.sql_text.specs.Columns.{column_name}
use Rattle.script_laws.specs.Texts.Grammar.Trees.{Sql, mark}
use Rattle.script_laws.specs.Texts.Expressions.Tree.{tree, source_tree}
use Rattle.script_laws.specs.Texts.Forms.Forms.{JoinForm, SelectForm, BulkForm, insert, update, delete, RowForm, fill, add, change, remove}

-- the joins, each with its condition under the sources up to it
abbrev pub joins_form : Dialect → Catalog → List Origin → List Joined → List JoinForm
joins_form dialect schema before [] = []
joins_form dialect schema before (join ∷ joins) =
    record { left = join.left; source = source_tree schema join.origin; on = tree dialect schema join.on (before ++ join.origin ∷ []) } ∷ joins_form dialect schema (before ++ join.origin ∷ []) joins

-- the number of a limit or an offset as a value
abbrev pub number : ℕ → Value
number n = cell.Int (pos n)

abbrev pub select_form : Dialect → Catalog → Select → SelectForm
select_form dialect schema s = record {
  distinct = s.distinct;
  items = map (λ item. (tree dialect schema item.0 (sources_of s), item.1)) s.items;
  first = source_tree schema s.first;
  joins = joins_form dialect schema (s.first ∷ []) s.joins;
  filter = option_map (λ e. tree dialect schema e (sources_of s)) s.filter;
  groups = map (λ e. tree dialect schema e (sources_of s)) s.groups;
  having = option_map (λ e. tree dialect schema e (sources_of s)) s.having;
  order = map (λ key. (tree dialect schema key.0 (sources_of s), key.1)) s.order;
  limit = option_map number s.limit;
  offset = option_map number s.offset;
}

-- what is set: a mark with NULL, or the tree of an expression
abbrev pub set_tree : Dialect → Catalog → TableId → Option Expr → Sql
set_tree dialect schema table None = mark cell.Null
set_tree dialect schema table (Some e) = tree dialect schema e (alone table)

abbrev pub bulk_form : Dialect → Catalog → Bulk → BulkForm
bulk_form dialect schema (bulk.Insert table columns values) = insert (spec_of schema table).name (map (column_name schema table) columns) values
bulk_form dialect schema (bulk.Update table cells filter) =
    update (spec_of schema table).name (map (λ c. (column_name schema table c.0, set_tree dialect schema table c.1)) cells) (option_map (λ e. tree dialect schema e (alone table)) filter)
bulk_form dialect schema (bulk.Delete table filter) = delete (spec_of schema table).name (option_map (λ e. tree dialect schema e (alone table)) filter)

-- ---- statements on rows

-- the first row's key is to be generated, and so is every other row's
abbrev pub is_drawn : TableSpec → List (List Value) → Bool
is_drawn spec [] = false
is_drawn spec (cells ∷ rows) = wants_key spec cells

-- the columns that are given values: all but a key that is to be generated
abbrev pub columns_with_values : Bool → List ColumnSpec → List (List ℕ)
columns_with_values drawn [] = []
columns_with_values drawn (column ∷ columns) = if drawn && column.key then columns_with_values drawn columns else column.name ∷ columns_with_values drawn columns

-- the values that are given
abbrev pub given_cells : Bool → List ColumnSpec → List Value → List (List ℕ × Value)
given_cells drawn [] cells = []
given_cells drawn (column ∷ columns) [] = []
given_cells drawn (column ∷ columns) (v ∷ cells) = if drawn && column.key then given_cells drawn columns cells else (column.name, v) ∷ given_cells drawn columns cells

abbrev pub given_values : Bool → List ColumnSpec → List Value → List Value
given_values drawn columns cells = map (λ cell. cell.1) (given_cells drawn columns cells)

-- the columns of the key
abbrev pub key_told : List ℕ → List ColumnSpec → List (List ℕ × List ℕ)
key_told table [] = []
key_told table (column ∷ columns) = if column.key then (table, column.name) ∷ key_told table columns else key_told table columns

-- PostgreSQL tells a generated key
abbrev pub returned_columns : Dialect → Bool → TableSpec → List (List ℕ × List ℕ)
returned_columns Sqlite drawn spec = []
returned_columns Postgresql drawn spec = if drawn then key_told spec.name spec.columns else []
returned_columns Mysql drawn spec = []

-- the key's columns with their values
abbrev pub key_values : List ℕ → List ColumnSpec → List Value → List (List ℕ × List ℕ × Value)
key_values table [] key = []
key_values table (column ∷ columns) [] = []
key_values table (column ∷ columns) (v ∷ key) = if column.key then (table, column.name, v) ∷ key_values table columns key else key_values table columns (v ∷ key)

abbrev pub add_form : Dialect → TableSpec → Bool → List (List Value) → RowForm
add_form dialect spec drawn rows =
    if list_all (λ column. drawn && column.key) spec.columns then fill spec.name (returned_columns dialect drawn spec)
    else add spec.name (columns_with_values drawn spec.columns) (map (given_values drawn spec.columns) rows) (returned_columns dialect drawn spec)

abbrev pub row_form : Dialect → Catalog → RowStmt → RowForm
row_form dialect schema (row.Insert table rows) = add_form dialect (spec_of schema table) (is_drawn (spec_of schema table) rows) rows
row_form dialect schema (row.Update table key cells) =
    change (spec_of schema table).name (map (λ c. (column_name schema table c.0, c.1)) cells) (key_values (spec_of schema table).name (spec_of schema table).columns key)
row_form dialect schema (row.Delete table key) = remove (spec_of schema table).name (key_values (spec_of schema table).name (spec_of schema table).columns key)
