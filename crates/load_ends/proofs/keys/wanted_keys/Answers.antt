use Rattle.std.proofs.Common.{[], rules}
use Rattle.load_batches.proofs.OwnerSteps.{folded_more}
use Rattle.load_ends.specs.Ends.{with_key_of}
use Rattle.load_ends.proofs.keys.wanted_keys.Goals as goal

pub loop-owner-preserved : goal.loop-owner-preserved
loop-owner-preserved c = record {
  left =
      folded_more (with_key_of c.args.mapping.now c.args.relation.now c.args.arena.now) [] c.args.owners.now c.loop-owner.owner-index _ c.loop-owner.keys c.push_wanted.new.keys c.loop-owner-test.true (search rules)
      c.in_ok-push_wanted.ensures.keys c.loop-owner.invariant.left;
  seen = c.in_ok-push_wanted.ensures.seen;
  fits = c.in_ok-push_wanted.ensures.fits c.loop-owner.invariant.fits;
}
