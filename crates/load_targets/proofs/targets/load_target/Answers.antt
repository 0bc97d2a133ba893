use Rattle.std.proofs.Common.{ap, length, refl, subst, sym, true, ◌<◌, ◌∙◌, ◌≡◌}
use Rattle.base_core.specs.declared.ids.ClassId.{ClassId}
use Rattle.class_types.specs.declared.mapped.Relation.{Relation}
use Rattle.class_mapping.specs.Mapped.{relations_of, root_of}
use Rattle.object_arena.specs.declared.object.Object.{Object}
use Rattle.object_arena.specs.Fit.{end_fits, relation_of}
use Rattle.object_arena.specs.Graph.{object_at}
use Rattle.keeper_core.proofs.Sequence.{passed_on}
use Rattle.load_rows.specs.Loading.{loading}
use Rattle.load_calls.specs.Refreshing.{IsShownDeleted}
use Rattle.load_calls.proofs.ReadLemmas.{passed_memory, passed_refusal, passed_stays, passed_still, stays_then, still_then}
use Rattle.load_calls.specs.Refusals.{CanRefuseLoad}
use Rattle.load_calls.proofs.RefusalLemmas.{of_refresh, of_rows}
use Rattle.load_calls.proofs.CollectionLemmas.{class_there, owner_there, same_relation}
use Rattle.load_calls.proofs.RowsLemmas.{grows_then}
use Rattle.load_targets.proofs.TargetLemmas.{passed_show, refresh_refused, same_grow, target_loaded, target_refused}
use Rattle.load_targets.proofs.targets.load_target.Goals as goal

pub relation_at-relation-requires-clause-class : goal.relation_at-relation-requires-clause-class
relation_at-relation-requires-clause-class g c = (c.object.ensures.fits c.args.mapping.now c.requires.fit).class

pub relation_at-relation-requires-clause-place : goal.relation_at-relation-requires-clause-place
relation_at-relation-requires-clause-place g c = subst (λ (o : Object). c.args.place.0 < length (relations_of c.args.mapping.now o.class)) (sym c.object.ensures.is) c.requires.place

pub returns-in_err-refresh_key-clause-step : goal.returns-in_err-refresh_key-clause-step
returns-in_err-refresh_key-clause-step g c =
    passed_on c.from_residual.ensures.1
    (refresh_refused g.K.Keeper.moment c.args.mapping.now c.relation_at-relation.result.now (relation_of c.args.mapping.now (object_at c.args.arena.now c.args.child).class c.args.place) c.args.child c.args.place _
    (c.relation_at-relation.ensures.is ∙ ap (λ (o : Object). relation_of c.args.mapping.now o.class c.args.place) c.object.ensures.is) c.in_err-refresh_key.ensures.step)

pub returns-in_err-refresh_key-clause-grows : goal.returns-in_err-refresh_key-clause-grows
returns-in_err-refresh_key-clause-grows g c = same_grow c.args.arena.now c.refresh_key.new.arena c.in_err-refresh_key.ensures.classes

pub read_target-requires-clause-ready : goal.read_target-requires-clause-ready
read_target-requires-clause-ready g c = c.in_ok-refresh_key.ensures.stays.0

pub read_target-requires-clause-child : goal.read_target-requires-clause-child
read_target-requires-clause-child g c = owner_there c.args.arena.now c.refresh_key.new.arena c.args.child (same_grow c.args.arena.now c.refresh_key.new.arena c.in_ok-refresh_key.ensures.classes) c.requires.child

pub read_target-requires-clause-place : goal.read_target-requires-clause-place
read_target-requires-clause-place g c =
    subst (λ (class : ClassId). c.args.place.0 < length (relations_of c.args.mapping.now class)) (sym (class_there c.args.arena.now c.refresh_key.new.arena c.args.child (same_grow c.args.arena.now c.refresh_key.new.arena c.in_ok-refresh_key.ensures.classes) c.requires.child)) c.requires.place

pub read_target-requires-clause-relation : goal.read_target-requires-clause-relation
read_target-requires-clause-relation g c =
    c.relation_at-relation.ensures.is ∙ ap (λ (o : Object). relation_of c.args.mapping.now o.class c.args.place) c.object.ensures.is
    ∙ sym (same_relation c.args.mapping.now c.args.arena.now c.refresh_key.new.arena c.args.child c.args.place (same_grow c.args.arena.now c.refresh_key.new.arena c.in_ok-refresh_key.ensures.classes) c.requires.child)

pub read_target-requires-clause-one : goal.read_target-requires-clause-one
read_target-requires-clause-one g c = ap (λ (r : Relation). r.many) (c.relation_at-relation.ensures.is ∙ ap (λ (o : Object). relation_of c.args.mapping.now o.class c.args.place) c.object.ensures.is) ∙ c.requires.one

pub returns-in_err-end-clause-step : goal.returns-in_err-end-clause-step
returns-in_err-end-clause-step g c =
    passed_on c.from_residual-in_err-end.ensures.1
    (target_refused g.K.Keeper.moment c.args.mapping.now c.relation_at-relation.result.now (relation_of c.args.mapping.now (object_at c.args.arena.now c.args.child).class c.args.place) c.args.child c.args.place _
    (c.relation_at-relation.ensures.is ∙ ap (λ (o : Object). relation_of c.args.mapping.now o.class c.args.place) c.object.ensures.is) c.in_ok-refresh_key.ensures.step c.in_err-end.ensures.step)

pub returns-in_err-end-clause-grows : goal.returns-in_err-end-clause-grows
returns-in_err-end-clause-grows g c = grows_then c.args.arena.now c.refresh_key.new.arena c.read_target.new.arena (same_grow c.args.arena.now c.refresh_key.new.arena c.in_ok-refresh_key.ensures.classes) c.in_err-end.ensures.grows

pub fill_end-requires-clause-owner : goal.fill_end-requires-clause-owner
fill_end-requires-clause-owner g c = owner_there c.args.arena.now c.read_target.new.arena c.args.child (grows_then c.args.arena.now c.refresh_key.new.arena c.read_target.new.arena (same_grow c.args.arena.now c.refresh_key.new.arena c.in_ok-refresh_key.ensures.classes) c.in_ok-end.ensures.grows) c.requires.child

pub fill_end-requires-clause-place : goal.fill_end-requires-clause-place
fill_end-requires-clause-place g c =
    subst (λ (class : ClassId). c.args.place.0 < length (relations_of c.args.mapping.now class)) (sym (class_there c.args.arena.now c.read_target.new.arena c.args.child (grows_then c.args.arena.now c.refresh_key.new.arena c.read_target.new.arena (same_grow c.args.arena.now c.refresh_key.new.arena c.in_ok-refresh_key.ensures.classes) c.in_ok-end.ensures.grows) c.requires.child)) c.requires.place

pub fill_end-requires-clause-one : goal.fill_end-requires-clause-one
fill_end-requires-clause-one g c = ap (λ (r : Relation). r.many) (same_relation c.args.mapping.now c.args.arena.now c.read_target.new.arena c.args.child c.args.place (grows_then c.args.arena.now c.refresh_key.new.arena c.read_target.new.arena (same_grow c.args.arena.now c.refresh_key.new.arena c.in_ok-refresh_key.ensures.classes) c.in_ok-end.ensures.grows) c.requires.child) ∙ c.requires.one

pub fill_end-requires-clause-end : goal.fill_end-requires-clause-end
fill_end-requires-clause-end g c =
    subst (λ (r : Relation). end_fits c.read_target.new.arena.roots (root_of c.args.mapping.now r.target) c.in_ok-end.end ≡ true)
    ((c.relation_at-relation.ensures.is ∙ ap (λ (o : Object). relation_of c.args.mapping.now o.class c.args.place) c.object.ensures.is) ∙ sym (same_relation c.args.mapping.now c.args.arena.now c.read_target.new.arena c.args.child c.args.place (grows_then c.args.arena.now c.refresh_key.new.arena c.read_target.new.arena (same_grow c.args.arena.now c.refresh_key.new.arena c.in_ok-refresh_key.ensures.classes) c.in_ok-end.ensures.grows) c.requires.child))
    c.in_ok-end.ensures.of

pub returns-clause-step : goal.returns-clause-step
returns-clause-step g c =
    target_loaded g.K.Keeper.moment c.args.mapping.now c.relation_at-relation.result.now (relation_of c.args.mapping.now (object_at c.args.arena.now c.args.child).class c.args.place) c.args.child c.args.place c.in_ok-end.end
    (c.relation_at-relation.ensures.is ∙ ap (λ (o : Object). relation_of c.args.mapping.now o.class c.args.place) c.object.ensures.is) c.in_ok-refresh_key.ensures.step c.in_ok-end.ensures.step c.in_ok-fill_end.ensures.filled tt

pub returns-in_err-fill_end-clause-step : goal.returns-in_err-fill_end-clause-step
returns-in_err-fill_end-clause-step g c =
    passed_on c.from_residual-in_err-fill_end.ensures.1
    (target_loaded g.K.Keeper.moment c.args.mapping.now c.relation_at-relation.result.now (relation_of c.args.mapping.now (object_at c.args.arena.now c.args.child).class c.args.place) c.args.child c.args.place c.in_ok-end.end
    (c.relation_at-relation.ensures.is ∙ ap (λ (o : Object). relation_of c.args.mapping.now o.class c.args.place) c.object.ensures.is) c.in_ok-refresh_key.ensures.step c.in_ok-end.ensures.step tt refl)

pub returns-clause-stays : goal.returns-clause-stays
returns-clause-stays g c = still_then (g.K.Keeper.moment c.args.keeper.now) (g.K.Keeper.moment c.refresh_key.new.keeper) (g.K.Keeper.moment c.read_target.new.keeper) c.in_ok-refresh_key.ensures.stays c.in_ok-end.ensures.stays

pub returns-in_err-end-clause-stays : goal.returns-in_err-end-clause-stays
returns-in_err-end-clause-stays g c = passed_still (g.K.Keeper.moment c.args.keeper.now) (g.K.Keeper.moment c.read_target.new.keeper) _ c.from_residual-in_err-end.result c.from_residual-in_err-end.ensures.1
    (stays_then (g.K.Keeper.moment c.args.keeper.now) (g.K.Keeper.moment c.refresh_key.new.keeper) (g.K.Keeper.moment c.read_target.new.keeper) _ c.in_ok-refresh_key.ensures.stays c.in_err-end.ensures.stays)

pub returns-in_err-fill_end-clause-stays : goal.returns-in_err-fill_end-clause-stays
returns-in_err-fill_end-clause-stays g c = passed_stays (g.K.Keeper.moment c.args.keeper.now) (g.K.Keeper.moment c.read_target.new.keeper) c.from_residual-in_err-fill_end.result c.from_residual-in_err-fill_end.ensures.1

pub returns-clause-grows : goal.returns-clause-grows
returns-clause-grows g c = grows_then c.args.arena.now c.read_target.new.arena c.fill_end.new.arena (grows_then c.args.arena.now c.refresh_key.new.arena c.read_target.new.arena (same_grow c.args.arena.now c.refresh_key.new.arena c.in_ok-refresh_key.ensures.classes) c.in_ok-end.ensures.grows) (same_grow c.read_target.new.arena c.fill_end.new.arena c.in_ok-fill_end.ensures.classes)

pub returns-in_err-fill_end-clause-grows : goal.returns-in_err-fill_end-clause-grows
returns-in_err-fill_end-clause-grows g c = grows_then c.args.arena.now c.read_target.new.arena c.fill_end.new.arena (grows_then c.args.arena.now c.refresh_key.new.arena c.read_target.new.arena (same_grow c.args.arena.now c.refresh_key.new.arena c.in_ok-refresh_key.ensures.classes) c.in_ok-end.ensures.grows) (same_grow c.read_target.new.arena c.fill_end.new.arena c.in_err-fill_end.ensures.classes)

pub returns-in_err-refresh_key-clause-refuses : goal.returns-in_err-refresh_key-clause-refuses
returns-in_err-refresh_key-clause-refuses g c =
    passed_refusal (CanRefuseLoad c.args.mapping.now c.refresh_key.new.arena c.args.child) _ c.from_residual.result c.from_residual.ensures.1 (of_refresh c.args.mapping.now c.args.child c.refresh_key.new.arena _ c.in_err-refresh_key.ensures.refuses)

pub returns-in_err-end-clause-refuses : goal.returns-in_err-end-clause-refuses
returns-in_err-end-clause-refuses g c =
    passed_refusal (CanRefuseLoad c.args.mapping.now c.read_target.new.arena c.args.child) _ c.from_residual-in_err-end.result c.from_residual-in_err-end.ensures.1 (of_rows c.args.mapping.now c.args.child c.read_target.new.arena _ c.in_err-end.ensures.refuses)

pub returns-in_err-fill_end-clause-refuses : goal.returns-in_err-fill_end-clause-refuses
returns-in_err-fill_end-clause-refuses g c = passed_memory (CanRefuseLoad c.args.mapping.now c.fill_end.new.arena c.args.child) c.from_residual-in_err-fill_end.result c.from_residual-in_err-fill_end.ensures.1 tt

pub returns-in_err-refresh_key-clause-shown : goal.returns-in_err-refresh_key-clause-shown
returns-in_err-refresh_key-clause-shown g c =
    passed_refusal (IsShownDeleted c.args.mapping.now c.args.child (loading c.args.arena.now c.args.notes.now, g.K.Keeper.moment c.args.keeper.now) (loading c.refresh_key.new.arena c.refresh_key.new.notes, g.K.Keeper.moment c.refresh_key.new.keeper)) _
    c.from_residual.result c.from_residual.ensures.1 c.in_err-refresh_key.ensures.shown

pub returns-in_err-end-clause-shown : goal.returns-in_err-end-clause-shown
returns-in_err-end-clause-shown g c =
    passed_show c.args.mapping.now c.args.child (loading c.args.arena.now c.args.notes.now, g.K.Keeper.moment c.args.keeper.now) (loading c.read_target.new.arena c.read_target.new.notes, g.K.Keeper.moment c.read_target.new.keeper) c.read_target.new.arena _
    c.from_residual-in_err-end.result c.from_residual-in_err-end.ensures.1 c.in_err-end.ensures.refuses

pub returns-in_err-fill_end-clause-shown : goal.returns-in_err-fill_end-clause-shown
returns-in_err-fill_end-clause-shown g c =
    passed_memory (IsShownDeleted c.args.mapping.now c.args.child (loading c.args.arena.now c.args.notes.now, g.K.Keeper.moment c.args.keeper.now) (loading c.fill_end.new.arena c.fill_end.new.notes, g.K.Keeper.moment c.read_target.new.keeper))
    c.from_residual-in_err-fill_end.result c.from_residual-in_err-fill_end.ensures.1 tt
