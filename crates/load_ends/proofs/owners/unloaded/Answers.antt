use Rattle.std.proofs.Common.{rules}
use Rattle.load_batches.proofs.OwnerSteps.{found_more}
use Rattle.load_ends.specs.Ends.{if_unloaded}
use Rattle.load_ends.proofs.owners.unloaded.Goals as goal

pub loop-owner-preserved : goal.loop-owner-preserved
loop-owner-preserved c =
    found_more (if_unloaded c.args.arena.now c.args.place) c.args.owners.now c.loop-owner.owner-index _ c.loop-owner.found c.push_unloaded.new.out c.loop-owner-test.true (search rules) c.in_ok-push_unloaded.ensures c.loop-owner.invariant
