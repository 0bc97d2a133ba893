-- The texts of statements on rows.
use Rattle.std.specs.Prelude.{ℕ, ◌++◌, Bool, false, ◌&&◌, List, [], ◌∷◌, if◌then◌else◌, codes}
use Rattle.std.specs.List.{list_all}
use Rattle.base_core.specs.declared.ids.ColumnNo.{ColumnNo}
use Rattle.base_core.specs.declared.ids.TableId.{TableId}
use Rattle.base_core.specs.declared.value.Value.{Value}
use Rattle.schema_core.specs.declared.statement.RowStmt.{RowStmt}
use Rattle.schema_core.specs.declared.statement.RowStmt.TheVariants as row
use Rattle.schema_core.specs.declared.table.ColumnSpec.{ColumnSpec}
use Rattle.schema_core.specs.declared.table.TableSpec.{TableSpec}
use Rattle.schema_core.specs.Apply.{wants_key}
use Rattle.schema_core.specs.Catalog.{Catalog, spec_of}
use Rattle.base_core.specs.declared.dialect.Dialect.{Dialect}
use Rattle.base_core.specs.declared.dialect.Dialect.TheVariants.{Sqlite, Postgresql, Mysql}
use Rattle.sql_text.specs.Columns.{column_name}
use Rattle.sql_text.specs.Written.{Piece, words, name, value, with_separators}

-- ---- tables, columns and values

abbrev pub table_piece : Catalog → TableId → Piece
table_piece schema table = name (spec_of schema table).name

abbrev pub column_piece : Catalog → TableId → ColumnNo → Piece
column_piece schema table column = name (column_name schema table column)

-- a row without columns
abbrev pub default_word : Dialect → List ℕ
default_word Sqlite = codes " DEFAULT VALUES"
default_word Postgresql = codes " DEFAULT VALUES"
default_word Mysql = codes " () VALUES ()"

-- a value for a column, under the column's name
abbrev pub cell_piece : Catalog → TableId → ColumnNo → Value → Piece
cell_piece schema table column v = value (column_name schema table column) v

-- ---- INSERT

-- the key is generated, as the first row says for all
abbrev pub leaves_key : TableSpec → List (List Value) → Bool
leaves_key spec [] = false
leaves_key spec (first ∷ rows) = wants_key spec first

-- a column without a value: the key's where the key is generated
unfoldable pub is_left_out : Bool → ColumnSpec → Bool
is_left_out drawn column = drawn && column.key

-- the names of the columns with a value, each with the word before it, and a comma before all but the first
abbrev pub names_pieces : Bool → List ℕ → List ColumnSpec → List Piece
names_pieces drawn word [] = []
names_pieces drawn word (column ∷ columns) =
    if is_left_out drawn column then names_pieces drawn word columns else words word ∷ name column.name ∷ names_pieces drawn (codes ", ") columns

-- the values of a row in the same form
abbrev pub row_cells : Bool → List ℕ → List ColumnSpec → List Value → List Piece
row_cells drawn word [] row = []
row_cells drawn word (column ∷ columns) [] = []
row_cells drawn word (column ∷ columns) (v ∷ row) =
    if is_left_out drawn column then row_cells drawn word columns row else words word ∷ value column.name v ∷ row_cells drawn (codes ", ") columns row

abbrev pub row_list : Bool → List ColumnSpec → List Value → List Piece
row_list drawn columns row = row_cells drawn (codes "(") columns row ++ words (codes ")") ∷ []

-- the columns and the rows
abbrev pub lists_pieces : Bool → List ColumnSpec → List (List Value) → List Piece
lists_pieces drawn columns rows =
    names_pieces drawn (codes " (") columns ++ (words (codes ") VALUES ") ∷ with_separators (codes ", ") (row_list drawn columns) rows)

-- the columns and the rows, or rather that there are no columns
abbrev pub rows_pieces : Dialect → Bool → List ColumnSpec → List (List Value) → List Piece
rows_pieces dialect drawn columns rows =
    if list_all (is_left_out drawn) columns then words (default_word dialect) ∷ [] else lists_pieces drawn columns rows

-- the key columns, named behind RETURNING
abbrev pub key_names : List ℕ → List ColumnSpec → List Piece
key_names table [] = []
key_names table (column ∷ columns) =
    if column.key then words (codes " RETURNING ") ∷ name table ∷ words (codes ".") ∷ name column.name ∷ key_names table columns else key_names table columns

-- PostgreSQL tells the generated key
abbrev pub returning_pieces : Dialect → Bool → TableSpec → List Piece
returning_pieces Sqlite drawn spec = []
returning_pieces Postgresql drawn spec = if drawn then key_names spec.name spec.columns else []
returning_pieces Mysql drawn spec = []

abbrev pub insert_rows : Dialect → TableSpec → Bool → List (List Value) → List Piece
insert_rows dialect spec drawn rows =
    words (codes "INSERT INTO ") ∷ name spec.name ∷ rows_pieces dialect drawn spec.columns rows ++ returning_pieces dialect drawn spec

-- ---- UPDATE and DELETE

-- a column of the key and its value
abbrev pub key_cell : List ℕ → ColumnSpec → Value → List Piece
key_cell table column v = name table ∷ words (codes ".") ∷ name column.name ∷ words (codes " = ") ∷ value column.name v ∷ []

-- the key's columns with their values, each with the word before it, and AND before all but the first
abbrev pub key_pieces : List ℕ → List ℕ → List ColumnSpec → List Value → List Piece
key_pieces table word [] key = []
key_pieces table word (column ∷ columns) [] = []
key_pieces table word (column ∷ columns) (v ∷ key) =
    if column.key then words word ∷ key_cell table column v ++ key_pieces table (codes " AND ") columns key else key_pieces table word columns (v ∷ key)

abbrev pub by_key : TableSpec → List Value → List Piece
by_key spec key = key_pieces spec.name (codes " WHERE ") spec.columns key

abbrev pub cell_pieces : Catalog → TableId → ColumnNo × Value → List Piece
cell_pieces schema table cell = column_piece schema table cell.0 ∷ words (codes "=") ∷ cell_piece schema table cell.0 cell.1 ∷ []

unfoldable pub row_pieces : Dialect → Catalog → RowStmt → List Piece
row_pieces dialect schema (row.Insert table rows) = insert_rows dialect (spec_of schema table) (leaves_key (spec_of schema table) rows) rows
row_pieces dialect schema (row.Update table key cells) =
    words (codes "UPDATE ") ∷ table_piece schema table ∷ words (codes " SET ") ∷ with_separators (codes ", ") (cell_pieces schema table) cells ++ by_key (spec_of schema table) key
row_pieces dialect schema (row.Delete table key) = words (codes "DELETE FROM ") ∷ table_piece schema table ∷ by_key (spec_of schema table) key
