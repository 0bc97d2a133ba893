use Rattle.std.proofs.Common.{◌<◌, ◌∙◌, List, length, ap, refl, rules, subst, sym}
use Rattle.base_core.specs.declared.ids.ClassId.{ClassId}
use Rattle.class_types.specs.declared.mapped.Relation.{Relation}
use Rattle.class_mapping.specs.Mapped.{relations_of}
use Rattle.object_arena.specs.declared.object.Object.{Object}
use Rattle.keeper_core.proofs.Sequence.{passed_on, reaches_start}
use Rattle.load_filling.proofs.LoadedLemmas.{grows_same}
use Rattle.load_rows.specs.Loading.{loading}
use Rattle.load_calls.specs.Refreshing.{Scene}
use Rattle.load_calls.specs.Refusals.{CanRefuseLoad}
use Rattle.load_calls.proofs.CollectionLemmas.{class_there, owner_there}
use Rattle.load_calls.proofs.ReadLemmas.{passed_refusal, passed_still, stays_then, still_then}
use Rattle.load_calls.proofs.RowsLemmas.{grows_then}
use Rattle.load_preparing.specs.Refusals.{IsShownAfter}
use Rattle.load_preparing.proofs.ReadingLemmas.{link_refused, link_turn, links_chosen, links_ended, shown_later}
use Rattle.load_preparing.proofs.links.read_links.Goals as goal

pub loop-number-init : goal.loop-number-init
loop-number-init g c = record { step = reaches_start; ready = (c.requires.ready, refl); grows = grows_same c.args.arena.now c.args.arena.now refl; fits = c.requires.fit }

pub read_link-requires-clause-object : goal.read_link-requires-clause-object
read_link-requires-clause-object g c = owner_there c.args.arena.now c.loop-number.arena c.args.object c.loop-number.invariant.grows c.requires.object

pub read_link-requires-clause-place : goal.read_link-requires-clause-place
read_link-requires-clause-place g c =
    subst (λ (class : ClassId). c.loop-number.number < length (relations_of c.args.mapping.now class)) (sym (class_there c.args.arena.now c.loop-number.arena c.args.object c.loop-number.invariant.grows c.requires.object))
    (subst (λ (rs : List Relation). c.loop-number.number < length rs) (c.relations-relations.ensures.relations ∙ ap (λ (o : Object). relations_of c.args.mapping.now o.class) c.object.ensures.is) c.loop-number-test.true)

pub read_link-requires-clause-ready : goal.read_link-requires-clause-ready
read_link-requires-clause-ready g c = c.loop-number.invariant.ready.0

pub loop-number-preserved : goal.loop-number-preserved
loop-number-preserved g c = record {
  step = link_turn g.K.Keeper.moment c.args.mapping.now c.args.object c.relations-relations.result.now c.loop-number.number _ c.loop-number-test.true (search rules) c.loop-number.invariant.step c.in_ok-read_link.ensures.step;
  ready = still_then (g.K.Keeper.moment c.args.keeper.now) (g.K.Keeper.moment c.loop-number.keeper) (g.K.Keeper.moment c.read_link.new.keeper) c.loop-number.invariant.ready c.in_ok-read_link.ensures.stays;
  grows = grows_then c.args.arena.now c.loop-number.arena c.read_link.new.arena c.loop-number.invariant.grows c.in_ok-read_link.ensures.grows;
  fits = c.in_ok-read_link.ensures.fits;
}

pub returns-in_err-read_link-clause-step : goal.returns-in_err-read_link-clause-step
returns-in_err-read_link-clause-step g c =
    passed_on c.from_residual.ensures.1
    (links_chosen g.K.Keeper.moment c.args.mapping.now c.args.object c.args.arena.now c.relations-relations.result.now (c.relations-relations.ensures.relations ∙ ap (λ (o : Object). relations_of c.args.mapping.now o.class) c.object.ensures.is)
    (link_refused g.K.Keeper.moment c.args.mapping.now c.args.object c.relations-relations.result.now c.loop-number.number _ c.loop-number-test.true (search rules) c.loop-number.invariant.step c.in_err-read_link.ensures.step))

pub returns-in_err-read_link-clause-stays : goal.returns-in_err-read_link-clause-stays
returns-in_err-read_link-clause-stays g c = passed_still (g.K.Keeper.moment c.args.keeper.now) (g.K.Keeper.moment c.read_link.new.keeper) _ c.from_residual.result c.from_residual.ensures.1
    (stays_then (g.K.Keeper.moment c.args.keeper.now) (g.K.Keeper.moment c.loop-number.keeper) (g.K.Keeper.moment c.read_link.new.keeper) _ c.loop-number.invariant.ready c.in_err-read_link.ensures.stays)

pub returns-in_err-read_link-clause-grows : goal.returns-in_err-read_link-clause-grows
returns-in_err-read_link-clause-grows g c = grows_then c.args.arena.now c.loop-number.arena c.read_link.new.arena c.loop-number.invariant.grows c.in_err-read_link.ensures.grows

pub returns-in_err-read_link-clause-refuses : goal.returns-in_err-read_link-clause-refuses
returns-in_err-read_link-clause-refuses g c = passed_refusal (CanRefuseLoad c.args.mapping.now c.read_link.new.arena c.args.object) _ c.from_residual.result c.from_residual.ensures.1 c.in_err-read_link.ensures.refuses

pub returns-in_err-read_link-clause-shown : goal.returns-in_err-read_link-clause-shown
returns-in_err-read_link-clause-shown g c =
    let before : Scene = (loading c.args.arena.now c.args.notes.now, g.K.Keeper.moment c.args.keeper.now) in
    let mid : Scene = (loading c.loop-number.arena c.loop-number.notes, g.K.Keeper.moment c.loop-number.keeper) in
    let after : Scene = (loading c.read_link.new.arena c.read_link.new.notes, g.K.Keeper.moment c.read_link.new.keeper) in
    passed_refusal (IsShownAfter c.args.mapping.now c.args.object before after) _ c.from_residual.result c.from_residual.ensures.1
    (shown_later c.args.mapping.now c.args.object before mid after _ c.loop-number.invariant.grows c.in_err-read_link.ensures.shown)

pub returns-clause-step : goal.returns-clause-step
returns-clause-step g c =
    links_chosen g.K.Keeper.moment c.args.mapping.now c.args.object c.args.arena.now c.relations-relations.result.now (c.relations-relations.ensures.relations ∙ ap (λ (o : Object). relations_of c.args.mapping.now o.class) c.object.ensures.is)
    (links_ended g.K.Keeper.moment c.args.mapping.now c.args.object c.relations-relations.result.now c.loop-number.number c.loop-number-test.false c.loop-number.invariant.step)
