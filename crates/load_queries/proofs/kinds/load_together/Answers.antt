use Rattle.load_queries.proofs.KindLemmas.{collections_loaded, ends_loaded}
use Rattle.load_queries.proofs.OwnerLemmas.{children_of}
use Rattle.load_queries.proofs.kinds.load_together.Goals as goal

pub returns-then-relation-clause-step : goal.returns-then-relation-clause-step
returns-then-relation-clause-step g c =
    collections_loaded g.K.Keeper.moment c.args.mapping.now c.args.relation.now c.args.place c.args.owners.now c.if-relation.true c.load_members.ensures.step

pub load_ends-requires-clause-owners : goal.load_ends-requires-clause-owners
load_ends-requires-clause-owners g c = children_of c.args.mapping.now c.args.arena.now c.args.relation.now c.args.place c.args.owners.now c.requires.owners

pub returns-clause-step : goal.returns-clause-step
returns-clause-step g c = ends_loaded g.K.Keeper.moment c.args.mapping.now c.args.relation.now c.args.place c.args.owners.now c.if-relation.false c.load_ends.ensures.step
