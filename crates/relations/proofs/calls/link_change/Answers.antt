use Rattle.std.proofs.Common.{ap, sym, ◌∙◌}
use Rattle.base_core.specs.declared.ids.ObjId.{ObjId}
use Rattle.class_types.specs.declared.mapped.Relation.{Relation}
use Rattle.object_arena.specs.Graph.{object_at}
use Rattle.object_arena.specs.Fit.{relation_of}
use Rattle.std.proofs.Common.{Option}
use Rattle.relations.specs.Calls.{end_of, is_of_collection, link_change, links_by}
use Rattle.relations.specs.Mirror.{end_fault}
use Rattle.relations.proofs.CallLemmas.{through_fault}
use Rattle.relations.proofs.ChangeLemmas.{end_taken, form_at, found_at, relation_found}
use Rattle.relations.proofs.calls.link_change.Goals as goal

pub returns-in-None-clause-fits : goal.returns-in-None-clause-fits
returns-in-None-clause-fits c =
    let found = c.index-relations-relation.result in
    let at = found_at c.args.mapping.now c.args.arena.now c.args.owner c.object.result.now c.relations.result.now c.args.relation found c.object.ensures.is c.relations.ensures.relations c.requires.relation c.index-relations-relation.is in
    c.links_by.ensures.fits c.relations.ensures.paired at
    (form_at c.args.mapping.now (object_at c.args.arena.now c.args.owner).class c.args.relation found (is_of_collection c.args.call) at c.requires.form)
    (end_taken c.args.arena.now c.args.mapping.now c.args.owner found.target (end_of c.args.call)
    (ap (λ (e : Option ObjId). end_fault c.args.arena.now c.args.mapping.now c.args.owner found.target e) (sym c.end.ensures) ∙ sym c.in-None.ensures))

pub returns-in-None-clause-change : goal.returns-in-None-clause-change
unfolding link_change
returns-in-None-clause-change c =
    let found = c.index-relations-relation.result in
    let at = found_at c.args.mapping.now c.args.arena.now c.args.owner c.object.result.now c.relations.result.now c.args.relation found c.object.ensures.is c.relations.ensures.relations c.requires.relation c.index-relations-relation.is in
    through_fault c.args.arena.now c.args.mapping.now c.args.owner (end_of c.args.call) (relation_of c.args.mapping.now (object_at c.args.arena.now c.args.owner).class c.args.relation) found
    (λ (r : Relation). links_by c.args.arena.now c.args.mapping.now c.args.owner c.args.relation r c.args.call) c.links_by.result
    (relation_found c.args.mapping.now (object_at c.args.arena.now c.args.owner).class c.args.relation found at)
    (ap (λ (e : Option ObjId). end_fault c.args.arena.now c.args.mapping.now c.args.owner found.target e) (sym c.end.ensures) ∙ sym c.in-None.ensures)
    c.links_by.ensures.change
