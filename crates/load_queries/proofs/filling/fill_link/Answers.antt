use Rattle.std.proofs.Common.{◌≡◌, ◌∙◌, true, List, ap, sym, subst}
use Rattle.std.specs.List.{All}
use Rattle.std.specs.Prelude.{Option}
use Rattle.base_core.specs.declared.ids.ObjId.{ObjId}
use Rattle.class_types.specs.declared.mapped.Relation.{Relation}
use Rattle.class_mapping.specs.Mapped.{root_of}
use Rattle.object_arena.specs.Fit.{end_fits, is_of_root, relation_of}
use Rattle.object_arena.specs.Graph.{object_at}
use Rattle.load_rows.specs.Loading.{loading}
use Rattle.load_queries.proofs.FillSteps.{Inherits, filled_many, filled_one, first_fits, inherits}
use Rattle.load_queries.proofs.filling.fill_link.Goals as goal

pub fill_collection-requires-clause-owner : goal.fill_collection-requires-clause-owner
fill_collection-requires-clause-owner c = c.requires.owner.made

pub fill_collection-requires-clause-place : goal.fill_collection-requires-clause-place
fill_collection-requires-clause-place c =
    (inherits c.args.mapping.now (object_at c.args.arena.now c.args.owner).class c.args.class c.args.place c.relation_at.ensures.paired c.requires.owner.under c.requires.place).within

pub fill_collection-requires-clause-many : goal.fill_collection-requires-clause-many
fill_collection-requires-clause-many c =
    ap (λ (r : Relation). r.many)
    ((inherits c.args.mapping.now (object_at c.args.arena.now c.args.owner).class c.args.class c.args.place c.relation_at.ensures.paired c.requires.owner.under c.requires.place).same
    ∙ sym c.relation_at.ensures.is)
    ∙ c.if-many.true

pub fill_collection-requires-clause-read : goal.fill_collection-requires-clause-read
fill_collection-requires-clause-read c =
    subst (λ (r : Relation). All (λ object. is_of_root c.args.arena.now.roots (root_of c.args.mapping.now r.target) object ≡ true) c.args.given.now)
    (sym (inherits c.args.mapping.now (object_at c.args.arena.now c.args.owner).class c.args.class c.args.place c.relation_at.ensures.paired c.requires.owner.under c.requires.place).same)
    c.requires.of

pub returns-then-many-clause-filled : goal.returns-then-many-clause-filled
returns-then-many-clause-filled c =
    filled_many c.args.mapping.now c.args.class c.args.owner c.args.place c.args.given.now (loading c.args.arena.now c.args.notes.now) (loading c.fill_collection.new.arena c.fill_collection.new.notes) c.fill_collection.result
    (ap (λ (r : Relation). r.many) (sym c.relation_at.ensures.is) ∙ c.if-many.true) c.fill_collection.ensures.filled

pub fill_end-requires-clause-owner : goal.fill_end-requires-clause-owner
fill_end-requires-clause-owner c = c.requires.owner.made

pub fill_end-requires-clause-place : goal.fill_end-requires-clause-place
fill_end-requires-clause-place c =
    (inherits c.args.mapping.now (object_at c.args.arena.now c.args.owner).class c.args.class c.args.place c.relation_at.ensures.paired c.requires.owner.under c.requires.place).within

pub fill_end-requires-clause-one : goal.fill_end-requires-clause-one
fill_end-requires-clause-one c =
    ap (λ (r : Relation). r.many)
    ((inherits c.args.mapping.now (object_at c.args.arena.now c.args.owner).class c.args.class c.args.place c.relation_at.ensures.paired c.requires.owner.under c.requires.place).same
    ∙ sym c.relation_at.ensures.is)
    ∙ c.if-many.false

pub fill_end-requires-clause-end : goal.fill_end-requires-clause-end
fill_end-requires-clause-end c =
    ap (λ (r : Relation). end_fits c.args.arena.now.roots (root_of c.args.mapping.now r.target) c.first_of.result)
    (inherits c.args.mapping.now (object_at c.args.arena.now c.args.owner).class c.args.class c.args.place c.relation_at.ensures.paired c.requires.owner.under c.requires.place).same
    ∙ ap (end_fits c.args.arena.now.roots (root_of c.args.mapping.now (relation_of c.args.mapping.now c.args.class c.args.place).target)) c.first_of.ensures
    ∙ first_fits c.args.arena.now.roots (root_of c.args.mapping.now (relation_of c.args.mapping.now c.args.class c.args.place).target) c.args.given.now c.requires.of

pub returns-clause-filled : goal.returns-clause-filled
returns-clause-filled c =
    filled_one c.args.mapping.now c.args.class c.args.owner c.args.place c.args.given.now c.first_of.result (loading c.args.arena.now c.args.notes.now) (loading c.fill_end.new.arena c.fill_end.new.notes) c.fill_end.result
    (ap (λ (r : Relation). r.many) (sym c.relation_at.ensures.is) ∙ c.if-many.false) c.first_of.ensures c.fill_end.ensures.filled
