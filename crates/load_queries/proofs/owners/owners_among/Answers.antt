use Rattle.std.proofs.Common.{rules}
use Rattle.load_batches.proofs.OwnerSteps.{found_more}
use Rattle.load_queries.specs.Selectin.{if_owner}
use Rattle.load_queries.proofs.owners.owners_among.Goals as goal

pub loop-object-preserved : goal.loop-object-preserved
loop-object-preserved c = record {
  owners =
      found_more (if_owner c.args.mapping.now c.args.class c.args.arena.now) c.args.objects.now c.loop-object.object-index _ c.loop-object.owners c.push_owner.new.owners c.loop-object-test.true (search rules) c.in_ok-push_owner.ensures.owners
      c.loop-object.invariant.owners;
  of = c.in_ok-push_owner.ensures.of c.loop-object.invariant.of;
}
