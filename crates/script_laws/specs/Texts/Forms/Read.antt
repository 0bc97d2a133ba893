-- The texts of statements are read as their forms.
use Rattle.std.specs.Prelude.{ℕ, List}
use Rattle.base_core.specs.declared.value.Value.{Value}
use Rattle.schema_core.specs.Catalog.{Catalog}
use Rattle.schema_core.specs.declared.statement.RowStmt.{RowStmt}
use Rattle.schema_core.specs.WellFormed.{IsWellFormed}
use Rattle.expr_types.specs.declared.select.Bulk.{Bulk}
use Rattle.expr_types.specs.declared.select.Select.{Select}
use Rattle.expr_types.specs.declared.select.Statement.{Statement}
use Rattle.expr_types.specs.declared.select.Statement.TheVariants.{Select as of_select, Bulk as of_bulk, Row as of_row}
use Rattle.sql_semantics.specs.Plain.{IsPlainSelect}
use Rattle.sql_semantics.specs.PlainStatement.{IsFittingBulk, IsPlain}
use Rattle.base_core.specs.declared.dialect.Dialect.{Dialect}
use Rattle.sql_statements.specs.Texts.{text_of}
use Rattle.script_laws.specs.Texts.Forms.Clauses.{ReadsSelect, ReadsBulk, ReadsRow}
use Rattle.script_laws.specs.Texts.Forms.Form.{select_form, bulk_form, row_form}

-- The text and the values of a plain select are read as its form.
abbrev pub SelectsAreRead : Type 0
SelectsAreRead = (dialect : Dialect) (schema : Catalog) (it : Select) → IsPlainSelect schema it
    → ReadsSelect dialect (text_of dialect schema (of_select it)).text (text_of dialect schema (of_select it)).values (select_form dialect schema it)

-- The text and the values of a bulk statement whose parts fit its table are read as its form.
abbrev pub BulksAreRead : Type 0
BulksAreRead = (dialect : Dialect) (schema : Catalog) (it : Bulk) → IsFittingBulk schema it
    → ReadsBulk dialect (text_of dialect schema (of_bulk it)).text (text_of dialect schema (of_bulk it)).values (bulk_form dialect schema it)

-- The text and the values of a well-formed statement on rows are read as its form.
abbrev pub RowsAreRead : Type 0
RowsAreRead = (dialect : Dialect) (schema : Catalog) (it : RowStmt) → IsWellFormed schema it
    → ReadsRow dialect (text_of dialect schema (of_row it)).text (text_of dialect schema (of_row it)).values (row_form dialect schema it)

-- a text and its values are read as a statement
abbrev pub ReadsStatement : Dialect → Catalog → List ℕ → List Value → Statement → Type 0
ReadsStatement dialect schema text values (of_select it) = ReadsSelect dialect text values (select_form dialect schema it)
ReadsStatement dialect schema text values (of_bulk it) = ReadsBulk dialect text values (bulk_form dialect schema it)
ReadsStatement dialect schema text values (of_row it) = ReadsRow dialect text values (row_form dialect schema it)

-- The text and the values of a plain statement are read as it.
abbrev pub StatementsAreRead : Type 0
StatementsAreRead = (dialect : Dialect) (schema : Catalog) (it : Statement) → IsPlain schema it → ReadsStatement dialect schema (text_of dialect schema it).text (text_of dialect schema it).values it
