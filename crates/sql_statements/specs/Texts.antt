-- The text of a statement in a dialect.
use Rattle.std.specs.Prelude.{List}
use Rattle.schema_core.specs.Catalog.{Catalog}
use Rattle.expr_types.specs.declared.select.Statement.{Statement}
use Rattle.expr_types.specs.declared.select.Statement.TheVariants.{Select, Bulk, Row}
use Rattle.base_core.specs.declared.dialect.Dialect.{Dialect}
use Rattle.sql_text.specs.declared.writer.Compiled.{Compiled}
use Rattle.sql_statements.specs.Bulks.{bulk_pieces}
use Rattle.sql_rows.specs.Rows.{row_pieces}
use Rattle.sql_rows.specs.Cuts.{IsCut}
use Rattle.sql_statements.specs.Selects.{select_pieces}
use Rattle.sql_text.specs.Written.{Piece, compiled_statement, nothing_written, put_all}

-- the pieces of a statement's text
abbrev pub statement_pieces : Dialect → Catalog → Statement → List Piece
statement_pieces dialect schema (Select select) = select_pieces dialect schema select
statement_pieces dialect schema (Bulk bulk) = bulk_pieces dialect schema bulk
statement_pieces dialect schema (Row row) = row_pieces dialect schema row

-- a statement's text with the names of its marks and their values
unfoldable pub text_of : Dialect → Catalog → Statement → Compiled
text_of dialect schema statement = compiled_statement (put_all (nothing_written dialect) (statement_pieces dialect schema statement))

-- the numbers of a select's cut are below 2 ^ 63, as those of every plain select are
abbrev pub HasCuts : Statement → Type 0
HasCuts (Select select) = IsCut select.limit × IsCut select.offset
HasCuts (Bulk bulk) = Unit {0}
HasCuts (Row row) = Unit {0}
