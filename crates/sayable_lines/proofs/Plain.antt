-- What a line says of selects and bulk statements is plain where it is resolved and not refused.
use Rattle.std.proofs.Common.{◌≡◌, true, Some, None, Ok, subst}
use Rattle.schema_core.specs.Catalog.{Catalog}
use Rattle.expr_types.specs.declared.select.Select.{Select}
use Rattle.script_types.specs.declared.command.Command.{Command}
use Rattle.script_types.specs.declared.command.Command.TheVariants as c
use Rattle.script_types.specs.declared.select.SynBulk.{SynBulk}
use Rattle.script_types.specs.declared.select.SynSelect.{SynSelect}
use Rattle.script_resolve.specs.Sayable.{is_sayable_bulk, is_sayable_select}
use Rattle.script_resolve.specs.Selects.{resolved_select, select_faults}
use Rattle.script_resolve.proofs.PlainSelect.{typed_select}
use Rattle.script_resolve.proofs.Whole.{answered, bulk_fits, resolved_plain}
use Rattle.statement_names.specs.SelectNames.{named_select}
use Rattle.select_laws.proofs.SameAnswers.{answers_same}
use Rattle.expr_types.specs.NormalSelect.{normal_select}
use Rattle.sql_semantics.specs.Eval.{Tables}
use Rattle.sql_semantics.specs.Rows.{answer}
use Rattle.sql_semantics.specs.Shapes.{AreRows}
use Rattle.sayable_lines.specs.Sayable.{BulksOfLinesFit, IsSayable, SelectsOfLinesAnswerAsWritten, SelectsOfLinesArePlain, bulk_of, select_of}
use Rattle.sayable_lines.proofs.Lines.{read_is_sayable}

none_some : {A : Type 0} {a : A} → None ≡ Some a → ⊥
none_some e = cc

select_sayable : (command : Command) (s : SynSelect) → IsSayable command → select_of command ≡ Some s → is_sayable_select s ≡ true
select_sayable (c.Rows w) s is e = cc
select_sayable (c.CompileRows dialect w) s is e = cc
select_sayable _ s is e = absurd (none_some e)

bulk_sayable : (command : Command) (b : SynBulk) → IsSayable command → bulk_of command ≡ Some b → is_sayable_bulk b ≡ true
bulk_sayable (c.Bulk w) b is e = cc
bulk_sayable (c.CompileBulk dialect w) b is e = cc
bulk_sayable _ b is e = absurd (none_some e)

pub selects_are_plain : SelectsOfLinesArePlain
selects_are_plain bytes number inside command s schema select read of resolved =
    resolved_plain schema s (Ok select) resolved (select_sayable command s (read_is_sayable bytes number inside command read) of)

answer_same : (schema : Catalog) (s : SynSelect) (select : Select) (tables : Tables) → is_sayable_select s ≡ true → resolved_select schema s ≡ Ok select → AreRows schema tables
    → answer schema tables select ≡ answer schema tables (named_select schema s)
unfolding resolved_select
answer_same schema s select tables say resolved fit =
    let both = answered (select_faults schema s) (normal_select (named_select schema s)) select resolved in
    subst (λ (x : Select). answer schema tables x ≡ answer schema tables (named_select schema s)) both.1
    (answers_same schema (named_select schema s) (typed_select schema s say both.0) tables fit)

pub selects_answer_as_written : SelectsOfLinesAnswerAsWritten
selects_answer_as_written bytes number inside command s schema select tables read of resolved fit =
    answer_same schema s select tables (select_sayable command s (read_is_sayable bytes number inside command read) of) resolved fit

pub bulks_fit : BulksOfLinesFit
bulks_fit bytes number inside command b schema bulk read of resolved =
    bulk_fits schema b (Ok bulk) resolved (bulk_sayable command b (read_is_sayable bytes number inside command read) of)
