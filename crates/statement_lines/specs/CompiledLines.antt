-- What is answered to lines that only compile.
use Rattle.std.specs.Prelude.{ℕ, List, [], ◌∷◌, ◌++◌, Option, None, Some, Ok, Err, codes}
use Rattle.base_core.specs.declared.ids.TableId.{TableId}
use Rattle.base_core.specs.declared.refusal.Refusal.{Refusal}
use Rattle.base_core.specs.declared.refusal.Refusal.TheVariants.{CompileError, InvalidRequestError, NotBuilt}
use Rattle.base_core.specs.declared.refusal.RequestKind.TheVariants.{Unknown}
use Rattle.schema_core.specs.Catalog.{Catalog, find_table}
use Rattle.schema_core.specs.DependencyOrder.{dependency_order}
use Rattle.expr_types.specs.declared.select.Statement.{Statement}
use Rattle.expr_types.specs.declared.select.Statement.TheVariants as statements
use Rattle.sql_semantics.specs.Checked.{Checked, ◌>>=◌}
use Rattle.script_types.specs.declared.command.Command.{Command}
use Rattle.script_types.specs.declared.command.Command.TheVariants as line
use Rattle.base_core.specs.declared.dialect.Dialect.{Dialect}
use Rattle.script_types.specs.declared.select.SynBulk.{SynBulk}
use Rattle.script_types.specs.declared.select.SynSelect.{SynSelect}
use Rattle.script_resolve.specs.Bulks.{resolved_bulk}
use Rattle.script_resolve.specs.Refusals.{CanRefuse}
use Rattle.script_resolve.specs.Selects.{resolved_select}
use Rattle.sql_statements.specs.Texts.{text_of}
use Rattle.sql_tables.specs.Ddl.{ddl}
use Rattle.statement_lines.specs.StatementLines.{statement_text}

-- ---- statements

-- the statement that a line says, or its first fault
abbrev pub select_said : Catalog → SynSelect → Checked Statement
select_said schema s = resolved_select schema s >>= λ select. Ok (statements.Select select)

abbrev pub bulk_said : Catalog → SynBulk → Checked Statement
bulk_said schema b = resolved_bulk schema b >>= λ bulk. Ok (statements.Bulk bulk)

-- a statement's text, and its values in a line of their own
abbrev pub lines_of : Dialect → Catalog → Statement → List ℕ
lines_of dialect schema statement = statement_text dialect (text_of dialect schema statement) ++ codes "\n"

-- what is answered to `compile DIALECT rows SELECT`
abbrev pub compiled_rows : Dialect → Catalog → SynSelect → Checked (List ℕ)
compiled_rows dialect schema s = select_said schema s >>= λ statement. Ok (lines_of dialect schema statement)

-- what is answered to `compile DIALECT bulk BULK`
abbrev pub compiled_bulk : Dialect → Catalog → SynBulk → Checked (List ℕ)
compiled_bulk dialect schema b = bulk_said schema b >>= λ statement. Ok (lines_of dialect schema statement)

-- ---- tables

abbrev pub line_of_table : Dialect → Catalog → TableId → Checked (List ℕ)
line_of_table dialect schema table = ddl dialect schema table [] >>= λ text. Ok (text ++ codes "\n")

abbrev pub line_of_found : Dialect → Catalog → List ℕ → Option TableId → Checked (List ℕ)
line_of_found dialect schema name None = Err (InvalidRequestError (Unknown name))
line_of_found dialect schema name (Some table) = line_of_table dialect schema table

-- what is answered to `compile DIALECT table NAME`: the text that makes the table, with all its foreign keys
abbrev pub compiled_table : Dialect → Catalog → List ℕ → Checked (List ℕ)
compiled_table dialect schema name = line_of_found dialect schema name (find_table schema.tables name)

-- the table has a text, or the first of its columns that has none is answered
abbrev pub table_compiled : Dialect → Catalog → TableId → Checked (Unit {0})
table_compiled dialect schema table = ddl dialect schema table [] >>= λ text. Ok tt

abbrev pub each_compiled : Dialect → Catalog → List TableId → Checked (Unit {0})
each_compiled dialect schema [] = Ok tt
each_compiled dialect schema (table ∷ tables) = table_compiled dialect schema table >>= λ u. each_compiled dialect schema tables

-- all tables have texts, or the first fault is answered of the tables in the order in which they are made
abbrev pub tables_compiled : Dialect → Catalog → Checked (Unit {0})
tables_compiled dialect schema = each_compiled dialect schema (dependency_order schema)

-- ---- lines

-- what is answered to a line that compiles by the tables alone: not one of objects
abbrev pub compiled_line : Catalog → Command → Checked (List ℕ)
compiled_line schema (line.CompileRows dialect s) = compiled_rows dialect schema s
compiled_line schema (line.CompileBulk dialect b) = compiled_bulk dialect schema b
compiled_line schema (line.CompileTable dialect name) = compiled_table dialect schema name
compiled_line schema other = Err NotBuilt

-- what such a line may be refused for: its names and kinds, a column without a type, a form that is not built, or memory that ran out
abbrev pub IsOfCompiling : Refusal → Type 0
IsOfCompiling (CompileError table column) = Unit {0}
IsOfCompiling NotBuilt = Unit {0}
IsOfCompiling e = CanRefuse e
