use Rattle.object_arena.specs.Fit.{no_relation}
use Rattle.main_selects.proofs.queries.relation_at.Goals as goal

pub returns-clause-target : goal.returns-clause-target
returns-clause-target c = (c.relations.ensures.related.each c.args.class c.requires.class c.args.place.0 no_relation c.requires.place).target
