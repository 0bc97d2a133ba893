-- Which rules may refuse a statement, and which keys are for a row.
use Rattle.std.specs.Prelude.{◌≡◌, true, List}
use Rattle.base_core.specs.declared.refusal.Refusal.TheVariants.{OperationalError}
use Rattle.base_core.specs.declared.value.Value.{Value}
use Rattle.schema_core.specs.declared.statement.Violation.{Violation}
use Rattle.schema_core.specs.declared.statement.Violation.TheVariants.{NoTable}
use Rattle.schema_core.specs.declared.table.TableSpec.{TableSpec}
use Rattle.schema_core.specs.Catalog.{Catalog}
use Rattle.schema_core.specs.Tables.{key_of}
use Rattle.schema_core.specs.WellFormed.{IsDrawnFor, is_key}
use Rattle.expr_types.specs.declared.select.Bulk.{Bulk}
use Rattle.expr_types.specs.declared.select.Select.{Select}
use Rattle.sql_semantics.specs.Applied.{table_of}
use Rattle.keeper_core.specs.Calls.{refusal_by, write_refusal}
use Rattle.keeper_core.specs.Keeping.{RefusesBulk, RefusesSelect}
use Rattle.sqlite_database.specs.declared.ending.Ending.{Ending}
use Rattle.sqlite_database.specs.declared.ending.Ending.TheVariants as endings

-- what is said of the rule, where one refuses
abbrev pub IfRefused : (Violation → Type 0) → Ending → Type 0
IfRefused P (endings.Refused violation) = P violation
IfRefused P ending = Unit {0}

-- a bulk statement may violate the rule
abbrev pub MayRefuseBulk : Catalog → Bulk → Violation → Type 0
MayRefuseBulk schema statement violation = RefusesBulk schema statement (write_refusal (table_of statement) (refusal_by violation))

-- a select may be refused so: a table of its text is not there
abbrev pub MayRefuseSelect : Catalog → Select → Violation → Type 0
MayRefuseSelect schema s (NoTable table) = RefusesSelect schema s (OperationalError table)
MayRefuseSelect schema s violation = ⊥

-- ---- keys

-- the key fits its columns, and has the values that the row gives for it
abbrev pub IsKeyFor : TableSpec → List Value → List Value → Type 0
IsKeyFor spec row key = (is_key spec key ≡ true) × IsDrawnFor (key_of spec row) key
