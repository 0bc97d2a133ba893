use Rattle.std.proofs.Common.{sym, ◌∙◌, arith}
use Rattle.class_layouts.specs.Hierarchy.{no_class}
use Rattle.session_calls.proofs.Searching.{none_more, none_passes, one_passes}
use Rattle.session_statements.specs.Steps.{is_told_by}
use Rattle.session_statements.proofs.asking.tells_apart.Goals as goal

pub loop-number-preserved : goal.loop-number-preserved
loop-number-preserved c =
    none_more (is_told_by c.args.table.now c.args.column.now) c.args.mapping.now.classes.specs no_class c.loop-number.number c.spec_of.result.now (omega (arith, c.count-number-end.ensures, c.loop-number-test.true)) c.spec_of.ensures
    (sym c.is_told_by.ensures ∙ c.if-is_told_by.false) c.loop-number.invariant

pub returns-then-is_told_by : goal.returns-then-is_told_by
returns-then-is_told_by c =
    sym
    (one_passes (is_told_by c.args.table.now c.args.column.now) c.args.mapping.now.classes.specs no_class c.loop-number.number c.spec_of.result.now (omega (arith, c.count-number-end.ensures, c.loop-number-test.true)) c.spec_of.ensures
    (sym c.is_told_by.ensures ∙ c.if-is_told_by.true))

pub returns : goal.returns
returns c = sym (none_passes (is_told_by c.args.table.now c.args.column.now) c.args.mapping.now.classes.specs no_class c.loop-number.number (omega (arith, c.count-number-end.ensures, c.loop-number-test.false)) c.loop-number.invariant)
