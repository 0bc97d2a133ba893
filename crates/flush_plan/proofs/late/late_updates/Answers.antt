use Rattle.std.proofs.Common.{◌++◌, ◌<◌, ◌≤◌, sym, ap, ◌∙◌, subst}
use Rattle.flush_plan.specs.Planning.{late_in}
use Rattle.flush_plan.proofs.LateSteps.{late_end, table_more}
use Rattle.flush_plan.proofs.late.late_updates.Goals as goal

pub loop-number-preserved : goal.loop-number-preserved
loop-number-preserved c =
    c.in_ok-push_table.ensures
    ∙ ap (λ statements. statements ++ late_in c.args.new.now.schema.now c.args.new.now.changes.now c.args.order.now (record { 0 = c.loop-number.number })) c.loop-number.invariant
    ∙ sym (table_more c.args.new.now.schema.now (late_in c.args.new.now.schema.now c.args.new.now.changes.now c.args.order.now) c.loop-number.number (subst (λ n. c.loop-number.number < n) c.count-number-end.ensures c.loop-number-test.true))

pub returns : goal.returns
returns c =
    c.loop-number.invariant
    ∙ late_end c.args.new.now.schema.now c.args.new.now.changes.now c.args.order.now c.loop-number.number (subst (λ n. n ≤ c.loop-number.number) c.count-number-end.ensures c.loop-number-test.false)
