use Rattle.std.proofs.Common.{ap, ◌∙◌}
use Rattle.flush_writes.specs.Writes.{removes}
use Rattle.flush_plan.proofs.PhaseSteps.{four_parts}
use Rattle.flush_plan.proofs.phases.statements.Goals as goal

pub returns : goal.returns
returns c =
    let schema = c.args.new.now.schema.now in
    c.from_vec.ensures
    ∙ four_parts _ _ _ _ _ _ _ _ _ _ _ c.in_ok-plan.ensures c.in_ok-updates.ensures c.in_ok-late_updates.ensures
    (c.in_ok-removes.ensures
    ∙ ap (λ s. removes s c.args.gone.now.changes.now c.args.gone_order.now) c.requires.schema
    ∙ ap (λ changes. removes schema changes c.args.gone_order.now) c.requires.changes)
    c.in_ok-push_all.ensures c.in_ok-push_all-2.ensures c.in_ok-push_all-3.ensures
