-- What a line says of selects and bulk statements can be said by lines, so that nothing is left to suppose of it where it is resolved.
use Rattle.std.specs.Prelude.{◌≡◌, ℕ, IsTrue, List, Option, Some, None, Ok}
use Rattle.expr_types.specs.declared.select.Bulk.{Bulk}
use Rattle.expr_types.specs.declared.select.Select.{Select}
use Rattle.schema_core.specs.Catalog.{Catalog}
use Rattle.sql_semantics.specs.Eval.{Tables}
use Rattle.sql_semantics.specs.Plain.{IsPlainSelect}
use Rattle.sql_semantics.specs.PlainStatement.{IsFittingBulk}
use Rattle.sql_semantics.specs.Rows.{answer}
use Rattle.sql_semantics.specs.Shapes.{AreRows}
use Rattle.script_types.specs.declared.command.Command.{Command}
use Rattle.script_types.specs.declared.command.Command.TheVariants as c
use Rattle.script_types.specs.declared.command.Inside.{Inside}
use Rattle.script_types.specs.declared.select.SynBulk.{SynBulk}
use Rattle.script_types.specs.declared.select.SynSelect.{SynSelect}
use Rattle.statement_names.specs.SelectNames.{named_select}
use Rattle.script_read.specs.Line.{line}
use Rattle.script_resolve.specs.Bulks.{resolved_bulk}
use Rattle.script_resolve.specs.Sayable.{is_sayable_bulk, is_sayable_select}
use Rattle.script_resolve.specs.Selects.{resolved_select}

-- the select or bulk statement of a line, where it has one, is one that lines can say
abbrev pub IsSayable : Command → Type 0
IsSayable (c.Rows s) = IsTrue (is_sayable_select s)
IsSayable (c.CompileRows dialect s) = IsTrue (is_sayable_select s)
IsSayable (c.Bulk b) = IsTrue (is_sayable_bulk b)
IsSayable (c.CompileBulk dialect b) = IsTrue (is_sayable_bulk b)
IsSayable command = Unit {0}

abbrev pub select_of : Command → Option SynSelect
select_of (c.Rows s) = Some s
select_of (c.CompileRows dialect s) = Some s
select_of command = None

abbrev pub bulk_of : Command → Option SynBulk
bulk_of (c.Bulk b) = Some b
bulk_of (c.CompileBulk dialect b) = Some b
bulk_of command = None

-- The select of a line is plain where it is resolved and not refused.
abbrev pub SelectsOfLinesArePlain : Type 0
SelectsOfLinesArePlain = (bytes : List ℕ) (number : ℕ) (inside : Inside) (command : Command) (s : SynSelect) (schema : Catalog) (select : Select)
    → line bytes number inside ≡ Ok command → select_of command ≡ Some s → resolved_select schema s ≡ Ok select → IsPlainSelect schema select

-- There it answers as it is written, in rows and refusals alike, over all tables whose rows fit their columns: grouped or not, with rows and without.
abbrev pub SelectsOfLinesAnswerAsWritten : Type 0
SelectsOfLinesAnswerAsWritten = (bytes : List ℕ) (number : ℕ) (inside : Inside) (command : Command) (s : SynSelect) (schema : Catalog) (select : Select) (tables : Tables)
    → line bytes number inside ≡ Ok command → select_of command ≡ Some s → resolved_select schema s ≡ Ok select → AreRows schema tables
    → answer schema tables select ≡ answer schema tables (named_select schema s)

-- The bulk statement of a line fits its table where it is resolved and not refused.
abbrev pub BulksOfLinesFit : Type 0
BulksOfLinesFit = (bytes : List ℕ) (number : ℕ) (inside : Inside) (command : Command) (b : SynBulk) (schema : Catalog) (bulk : Bulk)
    → line bytes number inside ≡ Ok command → bulk_of command ≡ Some b → resolved_bulk schema b ≡ Ok bulk → IsFittingBulk schema bulk
