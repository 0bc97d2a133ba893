use Rattle.std.proofs.Common.{◌++◌, [], ◌∷◌, sym, ap, ◌∙◌}
use Rattle.flush_writes.specs.Writes.{updates_to}
use Rattle.flush_writes.proofs.UpdateSteps.{update_more}
use Rattle.flush_writes.proofs.changed.updates.Goals as goal

pub loop-number-preserved : goal.loop-number-preserved
loop-number-preserved c =
    c.in_ok-push_update.ensures
    ∙ ap (λ statements. statements ++ updates_to c.args.schema.now c.args.changes.now (c.at-row.result.now ∷ [])) c.loop-number.invariant
    ∙ sym (update_more c.args.schema.now c.args.changes.now c.deref-number-items.result.now c.loop-number.number-index 0 c.at-row.result.now c.loop-number-test.true c.at-row.ensures)
