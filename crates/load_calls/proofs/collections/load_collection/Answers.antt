use Rattle.std.proofs.Common.{◌≡◌, ◌∙◌, ◌<◌, true, length, List, ap, sym, subst, refl}
use Rattle.std.specs.List.{All, AllByRecursion}
use Rattle.base_core.specs.declared.ids.ClassId.{ClassId}
use Rattle.base_core.specs.declared.ids.ObjId.{ObjId}
use Rattle.class_types.specs.declared.mapped.Relation.{Relation}
use Rattle.class_mapping.specs.Mapped.{relations_of, root_of}
use Rattle.object_arena.specs.declared.object.Object.{Object}
use Rattle.object_arena.specs.Fit.{is_of_root, relation_of}
use Rattle.object_arena.specs.Graph.{object_at}
use Rattle.keeper_core.proofs.Sequence.{passed_on}
use Rattle.load_filling.proofs.LoadedLemmas.{grows_same}
use Rattle.load_rows.proofs.TakenLemmas.{grows_filled}
use Rattle.load_rows.specs.Reading.{IsRowOf}
use Rattle.load_calls.proofs.ReadLemmas.{passed_memory, passed_refusal, passed_stays, ready_stays}
use Rattle.load_calls.specs.Refusals.{CanRefuseRows}
use Rattle.load_calls.proofs.RefusalLemmas.{of_cells, of_row}
use Rattle.load_calls.proofs.CollectionLemmas.{class_there, collection_loaded, members_refused, owned_related, owner_there, rows_refused, same_relation}
use Rattle.load_calls.proofs.collections.load_collection.Goals as goal

pub relation_at-relation-requires-clause-class : goal.relation_at-relation-requires-clause-class
relation_at-relation-requires-clause-class g c = (c.object.ensures.fits c.args.mapping.now c.requires.fit).class

pub relation_at-relation-requires-clause-place : goal.relation_at-relation-requires-clause-place
relation_at-relation-requires-clause-place g c = subst (λ (o : Object). c.args.place.0 < length (relations_of c.args.mapping.now o.class)) (sym c.object.ensures.is) c.requires.place

pub read_members-requires-clause-relation : goal.read_members-requires-clause-relation
read_members-requires-clause-relation g c = c.relation_at-relation.ensures.is ∙ ap (λ (o : Object). relation_of c.args.mapping.now o.class c.args.place) c.object.ensures.is

pub read_members-requires-clause-related : goal.read_members-requires-clause-related
read_members-requires-clause-related g c =
    owned_related c.args.mapping.now c.args.arena.now c.args.owner c.args.place c.relation_at-relation.result.now c.object.result.now c.relation_at-relation.ensures.related
    (c.object.ensures.fits c.args.mapping.now c.requires.fit) c.object.ensures.is c.requires.place
    (c.relation_at-relation.ensures.is ∙ ap (λ (o : Object). relation_of c.args.mapping.now o.class c.args.place) c.object.ensures.is)

pub read_members-requires-clause-many : goal.read_members-requires-clause-many
read_members-requires-clause-many g c = ap (λ (r : Relation). r.many) (read_members-requires-clause-relation g c) ∙ c.requires.many

pub returns-in_err-rows-clause-step : goal.returns-in_err-rows-clause-step
returns-in_err-rows-clause-step g c =
    passed_on c.from_residual.ensures.1
    (members_refused g.K.Keeper.moment c.args.mapping.now c.relation_at-relation.result.now (relation_of c.args.mapping.now (object_at c.args.arena.now c.args.owner).class c.args.place) c.args.owner c.args.place _
    (c.relation_at-relation.ensures.is ∙ ap (λ (o : Object). relation_of c.args.mapping.now o.class c.args.place) c.object.ensures.is) c.in_err-rows.ensures.step)

pub take_rows-requires-clause-class : goal.take_rows-requires-clause-class
take_rows-requires-clause-class g c =
    (owned_related c.args.mapping.now c.args.arena.now c.args.owner c.args.place c.relation_at-relation.result.now c.object.result.now c.relation_at-relation.ensures.related
    (c.object.ensures.fits c.args.mapping.now c.requires.fit) c.object.ensures.is c.requires.place
    (c.relation_at-relation.ensures.is ∙ ap (λ (o : Object). relation_of c.args.mapping.now o.class c.args.place) c.object.ensures.is)).target

pub take_rows-requires-clause-rows : goal.take_rows-requires-clause-rows
take_rows-requires-clause-rows g c = subst (AllByRecursion (IsRowOf c.args.mapping.now c.relation_at-relation.result.now.target)) (sym c.as_slice.ensures) c.in_ok-rows.ensures.rows

pub returns-in_err-members-clause-step : goal.returns-in_err-members-clause-step
returns-in_err-members-clause-step g c =
    passed_on c.from_residual-in_err-members.ensures.1
    (rows_refused g.K.Keeper.moment c.args.mapping.now c.relation_at-relation.result.now (relation_of c.args.mapping.now (object_at c.args.arena.now c.args.owner).class c.args.place) c.args.owner c.args.place c.in_ok-rows.rows c.as_slice.result.now _
    (c.relation_at-relation.ensures.is ∙ ap (λ (o : Object). relation_of c.args.mapping.now o.class c.args.place) c.object.ensures.is) c.as_slice.ensures c.in_ok-rows.ensures.step c.in_err-members.ensures.step)

pub returns-in_err-members-clause-stays : goal.returns-in_err-members-clause-stays
returns-in_err-members-clause-stays g c = ready_stays (g.K.Keeper.moment c.args.keeper.now) (g.K.Keeper.moment c.read_members.new.keeper) c.from_residual-in_err-members.result c.in_ok-rows.ensures.stays

pub fill_collection-requires-clause-owner : goal.fill_collection-requires-clause-owner
fill_collection-requires-clause-owner g c = owner_there c.args.arena.now c.take_rows.new.arena c.args.owner c.in_ok-members.ensures.grows c.requires.owner

pub fill_collection-requires-clause-place : goal.fill_collection-requires-clause-place
fill_collection-requires-clause-place g c =
    subst (λ (class : ClassId). c.args.place.0 < length (relations_of c.args.mapping.now class)) (sym (class_there c.args.arena.now c.take_rows.new.arena c.args.owner c.in_ok-members.ensures.grows c.requires.owner)) c.requires.place

pub fill_collection-requires-clause-many : goal.fill_collection-requires-clause-many
fill_collection-requires-clause-many g c =
    ap (λ (r : Relation). r.many) (same_relation c.args.mapping.now c.args.arena.now c.take_rows.new.arena c.args.owner c.args.place c.in_ok-members.ensures.grows c.requires.owner) ∙ c.requires.many

pub fill_collection-requires-clause-read : goal.fill_collection-requires-clause-read
fill_collection-requires-clause-read g c =
    subst (λ (objects : List ObjId). All (λ object. is_of_root c.take_rows.new.arena.roots (root_of c.args.mapping.now (relation_of c.args.mapping.now (object_at c.take_rows.new.arena c.args.owner).class c.args.place).target) object ≡ true) objects)
    (sym c.as_slice-2.ensures)
    (subst (λ (r : Relation). All (λ object. is_of_root c.take_rows.new.arena.roots (root_of c.args.mapping.now r.target) object ≡ true) c.in_ok-members.members)
    (c.relation_at-relation.ensures.is ∙ ap (λ (o : Object). relation_of c.args.mapping.now o.class c.args.place) c.object.ensures.is
    ∙ sym (same_relation c.args.mapping.now c.args.arena.now c.take_rows.new.arena c.args.owner c.args.place c.in_ok-members.ensures.grows c.requires.owner))
    c.in_ok-members.ensures.of)

pub returns-clause-step : goal.returns-clause-step
returns-clause-step g c =
    collection_loaded g.K.Keeper.moment c.args.mapping.now c.relation_at-relation.result.now (relation_of c.args.mapping.now (object_at c.args.arena.now c.args.owner).class c.args.place) c.args.owner c.args.place
    c.in_ok-rows.rows c.as_slice.result.now c.in_ok-members.members c.as_slice-2.result.now
    (c.relation_at-relation.ensures.is ∙ ap (λ (o : Object). relation_of c.args.mapping.now o.class c.args.place) c.object.ensures.is) c.as_slice.ensures c.as_slice-2.ensures
    c.in_ok-rows.ensures.step c.in_ok-members.ensures.step c.in_ok-fill_collection.ensures.filled tt

pub returns-in_err-fill_collection-clause-step : goal.returns-in_err-fill_collection-clause-step
returns-in_err-fill_collection-clause-step g c =
    passed_on c.from_residual-in_err-fill_collection.ensures.1
    (collection_loaded g.K.Keeper.moment c.args.mapping.now c.relation_at-relation.result.now (relation_of c.args.mapping.now (object_at c.args.arena.now c.args.owner).class c.args.place) c.args.owner c.args.place
    c.in_ok-rows.rows c.as_slice.result.now c.in_ok-members.members c.as_slice-2.result.now
    (c.relation_at-relation.ensures.is ∙ ap (λ (o : Object). relation_of c.args.mapping.now o.class c.args.place) c.object.ensures.is) c.as_slice.ensures c.as_slice-2.ensures
    c.in_ok-rows.ensures.step c.in_ok-members.ensures.step tt refl)

pub returns-in_err-fill_collection-clause-stays : goal.returns-in_err-fill_collection-clause-stays
returns-in_err-fill_collection-clause-stays g c =
    passed_stays (g.K.Keeper.moment c.args.keeper.now) (g.K.Keeper.moment c.read_members.new.keeper) c.from_residual-in_err-fill_collection.result c.from_residual-in_err-fill_collection.ensures.1

pub returns-clause-grows : goal.returns-clause-grows
returns-clause-grows g c = grows_filled c.args.arena.now c.take_rows.new.arena c.fill_collection.new.arena c.in_ok-members.ensures.grows c.in_ok-fill_collection.ensures.classes

pub returns-in_err-fill_collection-clause-grows : goal.returns-in_err-fill_collection-clause-grows
returns-in_err-fill_collection-clause-grows g c = grows_filled c.args.arena.now c.take_rows.new.arena c.fill_collection.new.arena c.in_ok-members.ensures.grows c.in_err-fill_collection.ensures.classes

pub returns-in_err-rows-clause-grows : goal.returns-in_err-rows-clause-grows
returns-in_err-rows-clause-grows g c = grows_same c.args.arena.now c.args.arena.now refl

pub returns-in_err-members-clause-refuses : goal.returns-in_err-members-clause-refuses
returns-in_err-members-clause-refuses g c =
    passed_refusal (CanRefuseRows c.args.mapping.now c.take_rows.new.arena) _ c.from_residual-in_err-members.result c.from_residual-in_err-members.ensures.1 (of_row c.args.mapping.now c.take_rows.new.arena _ c.in_err-members.ensures.refuses)

pub returns-in_err-fill_collection-clause-refuses : goal.returns-in_err-fill_collection-clause-refuses
returns-in_err-fill_collection-clause-refuses g c =
    passed_memory (CanRefuseRows c.args.mapping.now c.fill_collection.new.arena) c.from_residual-in_err-fill_collection.result c.from_residual-in_err-fill_collection.ensures.1 tt

pub returns-in_err-rows-clause-refuses : goal.returns-in_err-rows-clause-refuses
returns-in_err-rows-clause-refuses g c = passed_refusal (CanRefuseRows c.args.mapping.now c.args.arena.now) _ c.from_residual.result c.from_residual.ensures.1 (of_cells c.args.mapping.now c.args.arena.now _ c.in_err-rows.ensures.refuses)
