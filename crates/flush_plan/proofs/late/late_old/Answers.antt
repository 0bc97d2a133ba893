use Rattle.std.proofs.Common.{◌∙◌}
use Rattle.flush_plan.proofs.LateSteps.{old_fewer}
use Rattle.flush_plan.proofs.late.late_old.Goals as goal

pub by_place-requires : goal.by_place-requires
by_place-requires c =
    old_fewer c.args.schema.now c.args.changes.now c.from_vec-writings.result (c.from_vec-writings.ensures ∙ c.in_ok-late_writings.ensures) c.requires
