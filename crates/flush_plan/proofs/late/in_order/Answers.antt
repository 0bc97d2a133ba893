use Rattle.std.proofs.Common.{◌++◌, [], ◌∷◌, sym, ap, ◌∙◌}
use Rattle.flush_plan.proofs.LateSteps.{old_more}
use Rattle.flush_plan.proofs.late.in_order.Goals as goal

pub loop-number-preserved : goal.loop-number-preserved
loop-number-preserved c =
    c.in_ok-push_copy.ensures
    ∙ ap (λ writings. writings ++ c.at-writing.result.now ∷ []) c.loop-number.invariant
    ∙ sym (old_more c.args.writings.now c.args.numbers.now c.loop-number.number-index 0 c.at-writing.result.now c.loop-number-test.true c.at-writing.ensures)
