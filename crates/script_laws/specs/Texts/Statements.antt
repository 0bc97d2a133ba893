-- A text with its values is one statement of a kind, where names tell tables and columns.
use Rattle.std.specs.Prelude.{◌≡◌, ℕ, List, IsTrue}
use Rattle.base_core.specs.declared.value.Value.{Value}
use Rattle.schema_core.specs.Catalog.{Catalog}
use Rattle.schema_core.specs.Declaration.{IsDeclared}
use Rattle.schema_core.specs.WellFormed.{IsWellFormed}
use Rattle.schema_core.specs.declared.statement.RowStmt.{RowStmt}
use Rattle.expr_types.specs.declared.select.Bulk.{Bulk}
use Rattle.expr_types.specs.declared.select.Select.{Select}
use Rattle.expr_types.specs.declared.select.Statement.{Statement}
use Rattle.expr_types.specs.declared.select.Statement.TheVariants.{Select as of_select, Bulk as of_bulk, Row as of_row}
use Rattle.sql_semantics.specs.DistinctNames.{has_columns, has_distinct_names}
use Rattle.sql_semantics.specs.Plain.{IsPlainBulk, IsPlainSelect}
use Rattle.sql_semantics.specs.PlainStatement.{IsFittingBulk, IsPlain}
use Rattle.base_core.specs.declared.dialect.Dialect.{Dialect}
use Rattle.sql_statements.specs.Texts.{text_of}
use Rattle.script_laws.specs.Texts.Forms.Clauses.{ReadsSelect, ReadsBulk, ReadsRow}
use Rattle.script_laws.specs.Texts.Forms.Form.{select_form, bulk_form, row_form}
use Rattle.script_laws.specs.Texts.Forms.Read.{ReadsStatement}

-- A text with its values is read as one plain select at most.
abbrev pub IsOneSelect : Type 0
IsOneSelect =
    (dialect : Dialect) (schema : Catalog) (text : List ℕ) (values : List Value) (it other : Select) → IsTrue (has_distinct_names schema) → IsPlainSelect schema it → IsPlainSelect schema other
    → ReadsSelect dialect text values (select_form dialect schema it) → ReadsSelect dialect text values (select_form dialect schema other) → it ≡ other

-- A text with its values is read as one bulk statement at most; it may name a column twice, or write a key.
abbrev pub IsOneBulk : Type 0
IsOneBulk =
    (dialect : Dialect) (schema : Catalog) (text : List ℕ) (values : List Value) (it other : Bulk) → IsTrue (has_distinct_names schema) → IsFittingBulk schema it → IsFittingBulk schema other
    → ReadsBulk dialect text values (bulk_form dialect schema it) → ReadsBulk dialect text values (bulk_form dialect schema other) → it ≡ other

-- A text with its values is read as one statement on rows at most. New rows of a table without columns would all have one text.
abbrev pub IsOneRow : Type 0
IsOneRow =
    (dialect : Dialect) (schema : Catalog) (text : List ℕ) (values : List Value) (it other : RowStmt) → IsTrue (has_distinct_names schema) → IsTrue (has_columns schema) → IsWellFormed schema it
    → IsWellFormed schema other → ReadsRow dialect text values (row_form dialect schema it) → ReadsRow dialect text values (row_form dialect schema other) → it ≡ other

-- both are selects, both bulk statements, or both statements on rows
abbrev pub AreOfOneKind : Statement → Statement → Type 0
AreOfOneKind (of_select it) (of_select other) = Unit {0}
AreOfOneKind (of_bulk it) (of_bulk other) = Unit {0}
AreOfOneKind (of_row it) (of_row other) = Unit {0}
AreOfOneKind it other = ⊥

-- Under these tables a text with its values is read as one plain statement of a kind at most.
abbrev pub IsOneStatement : Catalog → Type 0
IsOneStatement schema =
    (dialect : Dialect) (text : List ℕ) (values : List Value) (it other : Statement) → IsPlain schema it → IsPlain schema other → AreOfOneKind it other
    → ReadsStatement dialect schema text values it → ReadsStatement dialect schema text values other → it ≡ other

-- So two that a dialect writes as one text with one list of values are one statement.
abbrev pub TextsTellStatements : Catalog → Type 0
TextsTellStatements schema =
    (dialect : Dialect) (it other : Statement) → IsPlain schema it → IsPlain schema other → AreOfOneKind it other → (text_of dialect schema it).text ≡ (text_of dialect schema other).text
    → (text_of dialect schema it).values ≡ (text_of dialect schema other).values → it ≡ other

-- Declared tables have names of which no two are the same, and so have their columns, and each has a column.
abbrev pub DeclaredNamesAreDistinct : Type 0
DeclaredNamesAreDistinct = (schema : Catalog) → IsDeclared schema.tables schema.resolved → IsTrue (has_distinct_names schema) × IsTrue (has_columns schema)

-- What a keeper may be sent of bulk statements is plain.
abbrev pub SentIsPlain : Type 0
SentIsPlain = (schema : Catalog) (it : Bulk) → IsPlainBulk schema it → IsPlain schema (of_bulk it)
