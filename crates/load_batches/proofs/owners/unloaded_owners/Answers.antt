use Rattle.std.proofs.Common.{rules}
use Rattle.load_batches.specs.Batches.{IsOwner, unloaded_owner}
use Rattle.load_batches.proofs.OwnerSteps.{found_more, one_at}
use Rattle.load_batches.proofs.owners.unloaded_owners.Goals as goal

pub loop-owner-preserved : goal.loop-owner-preserved
loop-owner-preserved c = record {
  found =
      found_more (unloaded_owner c.args.arena.now c.args.place) c.args.owners.now c.loop-owner.owner-index _ c.loop-owner.found c.push_unloaded.new.out c.loop-owner-test.true (search rules) c.in_ok-push_unloaded.ensures.owners
      c.loop-owner.invariant.found;
  owned = λ mapped relation fit all.
      c.in_ok-push_unloaded.ensures.owned mapped relation fit
      (one_at (IsOwner mapped c.args.arena.now relation c.args.place) c.args.owners.now c.loop-owner.owner-index _ c.loop-owner-test.true (search rules) all)
      (c.loop-owner.invariant.owned mapped relation fit all);
}
