use Rattle.std.proofs.Common.{◌<◌, length, sym, ap, subst, ◌∙◌}
use Rattle.class_mapping.specs.Mapped.{Mapped, relations_of}
use Rattle.object_arena.specs.Fit.{relation_of}
use Rattle.object_arena.specs.Graph.{Graph, object_at}
use Rattle.session_links.proofs.changing.change_of.Goals as goal

pub link_change-requires-clause-relation : goal.link_change-requires-clause-relation
link_change-requires-clause-relation c =
    subst (λ (m : Mapped). c.args.relation.0 < length (relations_of m (object_at c.arena.result.now c.args.owner).class)) (sym c.mapping.ensures)
    (subst (λ (g : Graph). c.args.relation.0 < length (relations_of c.args.session.now.mapping (object_at g c.args.owner).class)) (sym c.arena.ensures.objects) c.requires.relation)

pub link_change-requires-clause-form : goal.link_change-requires-clause-form
link_change-requires-clause-form c =
    ap (λ (m : Mapped). (relation_of m (object_at c.arena.result.now c.args.owner).class c.args.relation).many) c.mapping.ensures
    ∙ ap (λ (g : Graph). (relation_of c.args.session.now.mapping (object_at g c.args.owner).class c.args.relation).many) c.arena.ensures.objects
    ∙ c.requires.form
