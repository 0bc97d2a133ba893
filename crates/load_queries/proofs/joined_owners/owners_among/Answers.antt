use Rattle.std.proofs.Common.{refl}
use Rattle.load_queries.specs.Joined.{owners_among}
use Rattle.load_queries.proofs.FillSteps.{all_found, owners_all}
use Rattle.load_queries.proofs.joined_owners.owners_among.Goals as goal

pub returns-clause-of : goal.returns-clause-of
returns-clause-of c =
    owners_all c.args.mapping.now c.args.arena.now c.args.class c.args.objects.now c.loop-object.owners
    (all_found (owners_among c.args.mapping.now c.args.class c.args.arena.now) c.loop-object.owners c.args.objects.now c.loop-object.object-index c.loop-object-test.false refl c.loop-object.invariant) c.requires
