-- A statement without its values: one value stands for each, and lists keep their lengths.
use Rattle.std.specs.Prelude.{◌≡◌, if◌then◌else◌, List, map, Option, None, Some, pos}
use Rattle.std.specs.Option.{option_map}
use Rattle.base_core.specs.declared.value.Value.{Value}
use Rattle.base_core.specs.declared.value.Value.TheVariants as value
use Rattle.schema_core.specs.declared.statement.RowStmt.{RowStmt}
use Rattle.schema_core.specs.declared.statement.RowStmt.TheVariants as row
use Rattle.schema_core.specs.declared.table.TableSpec.{TableSpec}
use Rattle.schema_core.specs.Apply.{wants_key}
use Rattle.schema_core.specs.Catalog.{Catalog, spec_of}
use Rattle.expr_types.specs.declared.expr.Expr.{Expr, roll-Expr}
use Rattle.expr_types.specs.declared.expr.Expr.TheOpen.{Expr-F}
use Rattle.expr_types.specs.declared.expr.Expr.TheFolds.{fold-Expr}
use Rattle.expr_types.specs.declared.expr.Expr.TheVariants as expr
use Rattle.expr_types.specs.declared.select.Bulk.{Bulk}
use Rattle.expr_types.specs.declared.select.Bulk.TheVariants as bulk
use Rattle.expr_types.specs.declared.select.Joined.{Joined}
use Rattle.expr_types.specs.declared.select.Select.{Select}
use Rattle.expr_types.specs.declared.select.Statement.{Statement}
use Rattle.expr_types.specs.declared.select.Statement.TheVariants as statement
use Rattle.base_core.specs.declared.dialect.Dialect.{Dialect}
use Rattle.sql_statements.specs.Texts.{text_of}

-- one value for each
abbrev pub no_values : List Value → List Value
no_values = map (λ v. value.Null)

abbrev pub without_level : Expr-F Expr → Expr-F Expr
without_level (Expr-F.Lit v) = Expr-F.Lit value.Null
without_level (Expr-F.InList negated a values) = Expr-F.InList negated a (no_values values)
without_level level = level

-- an expression without its literals
unfoldable pub without : Expr → Expr
without = fold-Expr Expr (λ level. roll-Expr (without_level level))

abbrev pub without_join : Joined → Joined
without_join join = record { left = join.left; origin = join.origin; on = without join.on }

-- a select without its literals and the numbers of its cut
abbrev pub without_select : Select → Select
without_select s = record {
  distinct = s.distinct;
  items = map (λ item. (without item.0, item.1)) s.items;
  first = s.first;
  joins = map without_join s.joins;
  filter = option_map without s.filter;
  groups = map without s.groups;
  having = option_map without s.having;
  order = map (λ key. (without key.0, key.1)) s.order;
  limit = option_map (λ n. 0) s.limit;
  offset = option_map (λ n. 0) s.offset;
}

-- what is set: NULL is a value as a literal is
abbrev pub without_set : Option Expr → Option Expr
without_set None = Some (expr.Lit value.Null)
without_set (Some e) = Some (without e)

abbrev pub without_bulk : Bulk → Bulk
without_bulk (bulk.Insert table columns values) = bulk.Insert table columns (no_values values)
without_bulk (bulk.Update table cells filter) = bulk.Update table (map (λ cell. (cell.0, without_set cell.1)) cells) (option_map without filter)
without_bulk (bulk.Delete table filter) = bulk.Delete table (option_map without filter)

-- a new row, of which only stays whether its key is to be generated: NULL throughout, or a number
abbrev pub without_row : TableSpec → List Value → List Value
without_row spec cells = if wants_key spec cells then no_values cells else map (λ v. value.Int (pos 0)) cells

abbrev pub without_cells : Catalog → RowStmt → RowStmt
without_cells schema (row.Insert table rows) = row.Insert table (map (without_row (spec_of schema table)) rows)
without_cells schema (row.Update table key cells) = row.Update table (no_values key) (map (λ cell. (cell.0, value.Null)) cells)
without_cells schema (row.Delete table key) = row.Delete table (no_values key)

-- a statement without its values
abbrev pub without_values : Catalog → Statement → Statement
without_values schema (statement.Select it) = statement.Select (without_select it)
without_values schema (statement.Bulk it) = statement.Bulk (without_bulk it)
without_values schema (statement.Row it) = statement.Row (without_cells schema it)

-- Two statements that differ only in values have one text in a dialect.
abbrev pub ValuesAreInNoText : Type 0
ValuesAreInNoText = (dialect : Dialect) (schema : Catalog) (one other : Statement) → without_values schema one ≡ without_values schema other
    → (text_of dialect schema one).text ≡ (text_of dialect schema other).text
