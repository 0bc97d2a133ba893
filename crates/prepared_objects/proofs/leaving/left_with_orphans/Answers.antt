use Rattle.std.proofs.Common.{◌≡◌, ◌∙◌, List, IfOk, subst}
use Rattle.base_core.specs.declared.ids.ObjId.{ObjId}
use Rattle.cascades.specs.declared.closures.Flag.TheVariants.{Expunge}
use Rattle.cascades.specs.Reaching.{reach_of}
use Rattle.prepared_objects.specs.Leaving.{left_with_orphans}
use Rattle.prepared_objects.proofs.Parts.{reach_made}
use Rattle.prepared_objects.proofs.leaving.left_with_orphans.Goals as goal

pub returns-clause-left : goal.returns-clause-left
unfolding left_with_orphans
returns-clause-left c =
    subst (λ (starts : List ObjId). IfOk c.reached.result (λ set. set ≡ reach_of Expunge c.args.mapping.now c.args.arena.now starts)) (c.as_slice.ensures ∙ c.in_ok-starts.ensures.starts) c.reached.ensures.is

pub returns-clause-made : goal.returns-clause-made
returns-clause-made c = reach_made Expunge c.args.mapping.now c.args.arena.now c.as_slice.result.now c.reached.result c.reached.ensures.reach
