use Rattle.std.proofs.Common.{◌<◌, length, ap, subst, sym, ◌∙◌}
use Rattle.class_types.specs.declared.mapped.Relation.{Relation}
use Rattle.class_mapping.specs.Mapped.{Mapped, relations_of}
use Rattle.object_arena.specs.declared.object.Object.{Object}
use Rattle.object_arena.specs.Fit.{relation_of}
use Rattle.session_loads.proofs.links.is_many.Goals as goal

pub relation_at-requires-clause-place : goal.relation_at-requires-clause-place
relation_at-requires-clause-place c =
    subst (λ (m : Mapped). c.args.place.0 < length (relations_of m c.object.result.now.class)) (sym c.mapping.ensures)
    (subst (λ (o : Object). c.args.place.0 < length (relations_of c.args.session.now.mapping o.class)) (sym c.object.ensures.is) c.requires.place)

pub returns : goal.returns
returns c =
    ap (λ (r : Relation). r.many)
    (c.relation_at.ensures.is
    ∙ ap (λ (m : Mapped). relation_of m c.object.result.now.class c.args.place) c.mapping.ensures
    ∙ ap (λ (o : Object). relation_of c.args.session.now.mapping o.class c.args.place) c.object.ensures.is)
