use Rattle.load_batches.proofs.OwnerSteps.{owned_more}
use Rattle.load_queries.specs.Selectin.{IsOwnerOf}
use Rattle.load_queries.proofs.OwnerLemmas.{owner_tested}
use Rattle.load_queries.proofs.owners.push_owner.Goals as goal

pub returns-clause-of : goal.returns-clause-of
returns-clause-of c = λ all.
    owned_more (IsOwnerOf c.args.mapping.now c.args.arena.now c.args.class) c.args.object c.args.owners.now c.push.new.self c.push.result
    (owner_tested c.args.mapping.now c.args.arena.now c.args.class c.args.object c.is_owner.result c.requires c.is_owner.ensures c.if-not-is_owner.false) c.push.ensures.ok all
