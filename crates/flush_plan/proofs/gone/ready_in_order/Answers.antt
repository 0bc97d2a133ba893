use Rattle.std.proofs.Common.{[], ◌∷◌, ◌++◌, sym, ap, ◌∙◌}
use Rattle.flush_order.specs.Ready.{ready_gone}
use Rattle.flush_plan.proofs.GoneSteps.{ready_more}
use Rattle.flush_plan.proofs.gone.ready_in_order.Goals as goal

pub loop-number-preserved : goal.loop-number-preserved
loop-number-preserved c =
    c.in_ok-push_ready.ensures
    ∙ ap (λ rows. rows ++ ready_gone c.args.schema.now c.args.changes.now c.at-row.result.now ∷ []) c.loop-number.invariant
    ∙ sym (ready_more c.args.schema.now c.args.changes.now c.args.numbers.now c.loop-number.number-index 0 c.at-row.result.now c.loop-number-test.true c.at-row.ensures)
