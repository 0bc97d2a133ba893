-- A text with its values is one form at most.
use Rattle.std.specs.Prelude.{◌≡◌, ℕ, List}
use Rattle.base_core.specs.declared.value.Value.{Value}
use Rattle.schema_core.specs.Catalog.{Catalog}
use Rattle.schema_core.specs.declared.statement.RowStmt.{RowStmt}
use Rattle.schema_core.specs.WellFormed.{IsWellFormed}
use Rattle.expr_types.specs.declared.select.Bulk.{Bulk}
use Rattle.expr_types.specs.declared.select.Select.{Select}
use Rattle.expr_types.specs.declared.select.Statement.TheVariants.{Select as of_select, Bulk as of_bulk, Row as of_row}
use Rattle.sql_semantics.specs.Plain.{IsPlainSelect}
use Rattle.sql_semantics.specs.PlainStatement.{IsFittingBulk}
use Rattle.base_core.specs.declared.dialect.Dialect.{Dialect}
use Rattle.sql_statements.specs.Texts.{text_of}
use Rattle.script_laws.specs.Texts.Forms.Forms.{SelectForm, BulkForm, RowForm}
use Rattle.script_laws.specs.Texts.Forms.Clauses.{ReadsSelect, ReadsBulk, ReadsRow}
use Rattle.script_laws.specs.Texts.Forms.Form.{select_form, bulk_form, row_form}

-- ---- selects

-- A text with its values is read as one select at most.
abbrev pub IsOneSelectForm : Type 0
IsOneSelectForm = (dialect : Dialect) (text : List ℕ) (values : List Value) (x y : SelectForm) → ReadsSelect dialect text values x → ReadsSelect dialect text values y → x ≡ y

-- Two plain selects that a dialect writes as one text with one list of values have one form, each under its own schema.
abbrev pub SelectTextsTellForms : Type 0
SelectTextsTellForms =
    (dialect : Dialect) (schema other_schema : Catalog) (it other : Select) → IsPlainSelect schema it → IsPlainSelect other_schema other
    → (text_of dialect schema (of_select it)).text ≡ (text_of dialect other_schema (of_select other)).text → (text_of dialect schema (of_select it)).values ≡ (text_of dialect other_schema (of_select other)).values
    → select_form dialect schema it ≡ select_form dialect other_schema other

-- ---- bulk statements

-- A text with its values is read as one bulk statement at most.
abbrev pub IsOneBulkForm : Type 0
IsOneBulkForm = (dialect : Dialect) (text : List ℕ) (values : List Value) (x y : BulkForm) → ReadsBulk dialect text values x → ReadsBulk dialect text values y → x ≡ y

-- Two plain bulk statements that a dialect writes as one text with one list of values have one form, each under its own schema.
abbrev pub BulkTextsTellForms : Type 0
BulkTextsTellForms =
    (dialect : Dialect) (schema other_schema : Catalog) (it other : Bulk) → IsFittingBulk schema it → IsFittingBulk other_schema other
    → (text_of dialect schema (of_bulk it)).text ≡ (text_of dialect other_schema (of_bulk other)).text → (text_of dialect schema (of_bulk it)).values ≡ (text_of dialect other_schema (of_bulk other)).values
    → bulk_form dialect schema it ≡ bulk_form dialect other_schema other

-- ---- statements on rows

-- A text with its values is read as one statement on rows at most.
abbrev pub IsOneRowForm : Type 0
IsOneRowForm = (dialect : Dialect) (text : List ℕ) (values : List Value) (x y : RowForm) → ReadsRow dialect text values x → ReadsRow dialect text values y → x ≡ y

-- Two well-formed statements on rows that a dialect writes as one text with one list of values have one form, each under its own schema.
abbrev pub RowTextsTellForms : Type 0
RowTextsTellForms =
    (dialect : Dialect) (schema other_schema : Catalog) (it other : RowStmt) → IsWellFormed schema it → IsWellFormed other_schema other
    → (text_of dialect schema (of_row it)).text ≡ (text_of dialect other_schema (of_row other)).text → (text_of dialect schema (of_row it)).values ≡ (text_of dialect other_schema (of_row other)).values
    → row_form dialect schema it ≡ row_form dialect other_schema other
