use Rattle.std.proofs.Common.{◌++◌, [], ◌∷◌, sym, ap, ◌∙◌}
use Rattle.flush_writes.proofs.UpdateSteps.{name_more}
use Rattle.flush_writes.proofs.names.new_names.Goals as goal

pub loop-row-preserved : goal.loop-row-preserved
loop-row-preserved c =
    c.in_ok-push_name.ensures
    ∙ ap (λ names. names ++ c.at-fresh.result.now.name ∷ []) c.loop-row.invariant
    ∙ sym (name_more c.args.new.now.changes.now c.args.rows.now c.loop-row.row-index 0 c.at-fresh.result.now c.loop-row-test.true c.at-fresh.ensures)
