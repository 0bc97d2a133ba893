use Rattle.load_batches.specs.Batches.{IsOwned}
use Rattle.load_batches.proofs.OwnerSteps.{owned_more, owned_told, owner_keyed}
use Rattle.load_batches.proofs.owners.push_unloaded.Goals as goal

pub returns-clause-owned : goal.returns-clause-owned
returns-clause-owned c = λ mapped relation fit owner all.
    owned_more (IsOwned mapped c.args.arena.now relation c.args.place) c.in_ok-with_key.field-0 c.args.out.now c.push.new.self c.push.result
    (owned_told mapped c.args.arena.now relation c.args.place c.args.owner c.in_ok-with_key.field-0 c.in_ok-with_key.ensures
    (owner_keyed mapped c.args.arena.now relation c.args.place c.args.owner c.object.result.now owner (c.object.ensures.fits mapped fit) c.object.ensures.is c.object.ensures.identified))
    c.push.ensures.ok all
