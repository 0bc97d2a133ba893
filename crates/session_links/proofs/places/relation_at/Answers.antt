use Rattle.std.proofs.Common.{◌<◌, List, length, sym, ap, subst, ◌∙◌}
use Rattle.class_types.specs.declared.mapped.Relation.{Relation}
use Rattle.class_mapping.specs.Mapped.{Mapped, relations_of}
use Rattle.object_arena.specs.declared.object.Object.{Object}
use Rattle.object_arena.specs.Graph.{object_at}
use Rattle.relations.proofs.ChangeLemmas.{found_at, relation_found}
use Rattle.session_links.proofs.places.relation_at.Goals as goal

pub bounds-relations-relation : goal.bounds-relations-relation
bounds-relations-relation c =
    subst (λ (listed : List Relation). c.args.relation.0 < length listed)
    (sym (c.relations.ensures.relations
    ∙ ap (λ (m : Mapped). relations_of m c.object.result.now.class) c.mapping.ensures
    ∙ ap (λ (o : Object). relations_of c.args.session.now.mapping o.class) c.object.ensures.is))
    c.requires.relation

pub returns : goal.returns
returns c =
    let found = c.index-relations-relation.result in
    let at = found_at c.args.session.now.mapping c.args.session.now.graph c.args.object c.object.result.now c.relations.result.now c.args.relation found c.object.ensures.is
    (c.relations.ensures.relations ∙ ap (λ (m : Mapped). relations_of m c.object.result.now.class) c.mapping.ensures) c.requires.relation c.index-relations-relation.is in
    sym (relation_found c.args.session.now.mapping (object_at c.args.session.now.graph c.args.object).class c.args.relation found at)
