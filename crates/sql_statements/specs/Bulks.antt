-- The texts of bulk statements.
use Rattle.std.specs.Prelude.{ℕ, ◌++◌, List, [], ◌∷◌, Option, Some, None, codes}
use Rattle.base_core.specs.declared.ids.ColumnNo.{ColumnNo}
use Rattle.base_core.specs.declared.ids.TableId.{TableId}
use Rattle.base_core.specs.declared.value.Value.{Value}
use Rattle.base_core.specs.declared.value.Value.TheVariants as cell
use Rattle.schema_core.specs.Catalog.{Catalog}
use Rattle.expr_types.specs.declared.expr.Expr.{Expr}
use Rattle.expr_types.specs.declared.select.Bulk.{Bulk}
use Rattle.expr_types.specs.declared.select.Bulk.TheVariants as bulk
use Rattle.sql_semantics.specs.Plain.{alone}
use Rattle.base_core.specs.declared.dialect.Dialect.{Dialect}
use Rattle.sql_expressions.specs.Laid.{laid}
use Rattle.sql_text.specs.Columns.{column_name}
use Rattle.sql_rows.specs.Rows.{cell_piece, column_piece, default_word, table_piece}
use Rattle.sql_statements.specs.Selects.{clause_pieces}
use Rattle.sql_text.specs.Written.{Piece, words, with_separators}

abbrev pub columns_pieces : Catalog → TableId → List ColumnNo → List Piece
columns_pieces schema table columns = with_separators (codes ", ") (λ column. column_piece schema table column ∷ []) columns

-- values for columns, each with the word before it, and a comma before all but the first
abbrev pub cells_pieces : Catalog → TableId → List ℕ → List ColumnNo → List Value → List Piece
cells_pieces schema table word columns [] = []
cells_pieces schema table word [] (v ∷ values) = []
cells_pieces schema table word (column ∷ columns) (v ∷ values) =
    words word ∷ cell_piece schema table column v ∷ cells_pieces schema table (codes ", ") columns values

-- the columns and their values
abbrev pub lists_pieces : Catalog → TableId → List ColumnNo → List Value → List Piece
lists_pieces schema table columns values =
    words (codes " (") ∷ columns_pieces schema table columns
    ++ (words (codes ") VALUES ") ∷ cells_pieces schema table (codes "(") columns values ++ words (codes ")") ∷ [])

-- the values of a row, or rather that there are no columns
abbrev pub values_pieces : Dialect → Catalog → TableId → List ColumnNo → List Value → List Piece
values_pieces dialect schema table [] values = words (default_word dialect) ∷ []
values_pieces dialect schema table (column ∷ columns) values = lists_pieces schema table (column ∷ columns) values

abbrev pub filter_pieces : Dialect → Catalog → TableId → Option Expr → List Piece
filter_pieces dialect schema table filter = clause_pieces dialect schema (alone table) (codes " WHERE ") filter

-- what is set: an expression in which a literal that stands alone has the column's name, or NULL
abbrev pub written_pieces : Dialect → Catalog → TableId → ColumnNo → Option Expr → List Piece
written_pieces dialect schema table column None = cell_piece schema table column cell.Null ∷ []
written_pieces dialect schema table column (Some e) = (laid dialect schema e).pieces (alone table) (column_name schema table column)

abbrev pub set_pieces : Dialect → Catalog → TableId → ColumnNo × Option Expr → List Piece
set_pieces dialect schema table set = column_piece schema table set.0 ∷ words (codes "=") ∷ written_pieces dialect schema table set.0 set.1

abbrev pub insert_pieces : Dialect → Catalog → TableId → List ColumnNo → List Value → List Piece
insert_pieces dialect schema table columns values = words (codes "INSERT INTO ") ∷ table_piece schema table ∷ values_pieces dialect schema table columns values

abbrev pub delete_pieces : Dialect → Catalog → TableId → Option Expr → List Piece
delete_pieces dialect schema table filter = words (codes "DELETE FROM ") ∷ table_piece schema table ∷ filter_pieces dialect schema table filter

abbrev pub update_pieces : Dialect → Catalog → TableId → List (ColumnNo × Option Expr) → Option Expr → List Piece
update_pieces dialect schema table cells filter =
    words (codes "UPDATE ") ∷ table_piece schema table ∷ words (codes " SET ") ∷ with_separators (codes ", ") (set_pieces dialect schema table) cells
    ++ filter_pieces dialect schema table filter

unfoldable pub bulk_pieces : Dialect → Catalog → Bulk → List Piece
bulk_pieces dialect schema (bulk.Insert table columns values) = insert_pieces dialect schema table columns values
bulk_pieces dialect schema (bulk.Update table cells filter) = update_pieces dialect schema table cells filter
bulk_pieces dialect schema (bulk.Delete table filter) = delete_pieces dialect schema table filter
