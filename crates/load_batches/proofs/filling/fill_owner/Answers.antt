use Rattle.std.proofs.Common.{◌≡◌, ◌∙◌, true, List, ap, subst, sym}
use Rattle.std.specs.List.{All}
use Rattle.base_core.specs.declared.ids.ObjId.{ObjId}
use Rattle.class_types.specs.declared.mapped.Relation.{Relation}
use Rattle.class_mapping.specs.Mapped.{root_of}
use Rattle.object_arena.specs.Fit.{is_of_root, relation_of}
use Rattle.object_arena.specs.Graph.{object_at}
use Rattle.load_rows.specs.Loading.{loading}
use Rattle.load_batches.specs.Batches.{members_under}
use Rattle.load_batches.proofs.MemberSteps.{owner_filled, under_all}
use Rattle.load_batches.proofs.filling.fill_owner.Goals as goal

pub fill_collection-requires-clause-owner : goal.fill_collection-requires-clause-owner
fill_collection-requires-clause-owner c = c.requires.owned.made

pub fill_collection-requires-clause-place : goal.fill_collection-requires-clause-place
fill_collection-requires-clause-place c = c.requires.owned.within

pub fill_collection-requires-clause-many : goal.fill_collection-requires-clause-many
fill_collection-requires-clause-many c = ap (λ (r : Relation). r.many) c.requires.owned.is ∙ c.requires.many

pub fill_collection-requires-clause-read : goal.fill_collection-requires-clause-read
fill_collection-requires-clause-read c =
    subst (λ (objects : List ObjId). All (λ object. is_of_root c.args.arena.now.roots (root_of c.args.mapping.now (relation_of c.args.mapping.now (object_at c.args.arena.now c.args.owner.now.object).class c.args.place).target) object ≡ true) objects) (sym (c.members_under.ensures ∙ c.requires.groups.same c.args.owner.now.key))
    (subst (λ (r : Relation). All (λ object. is_of_root c.args.arena.now.roots (root_of c.args.mapping.now r.target) object ≡ true) (members_under c.args.members.now c.args.owner.now.key)) (sym c.requires.owned.is)
    (under_all (λ object. is_of_root c.args.arena.now.roots (root_of c.args.mapping.now c.args.relation.now.target) object ≡ true) c.args.members.now c.args.owner.now.key c.requires.of))

pub returns-clause-step : goal.returns-clause-step
returns-clause-step c =
    owner_filled c.args.place c.args.members.now c.args.owner.now c.members_under.result.now (loading c.args.arena.now c.args.notes.now) (loading c.fill_collection.new.arena c.fill_collection.new.notes) c.fill_collection.result
    (c.members_under.ensures ∙ c.requires.groups.same c.args.owner.now.key) c.fill_collection.ensures.filled
