use Rattle.std.proofs.Common.{◌<◌, ◌∙◌, ℕ, length, ap, refl, sym, subst}
use Rattle.class_mapping.specs.Mapped.{relations_of}
use Rattle.object_arena.specs.declared.object.Object.{Object}
use Rattle.object_arena.specs.Graph.{object_at}
use Rattle.keeper_core.proofs.Sequence.{no_memory, passed_on}
use Rattle.load_filling.proofs.LoadedLemmas.{grows_same}
use Rattle.load_calls.proofs.ReadLemmas.{passed_memory}
use Rattle.load_calls.specs.Refreshing.{Scene}
use Rattle.load_preparing.specs.Refusals.{IsShownAfter}
use Rattle.load_rows.specs.Loading.{loading}
use Rattle.load_targets.specs.Targets.{load_lazy}
use Rattle.load_preparing.specs.Preparing.{is_to_load}
use Rattle.load_preparing.proofs.ReadingLemmas.{Loads, if_shown, link_held, link_loaded, memory_shown, still_persistent}
use Rattle.load_preparing.proofs.links.read_link.Goals as goal

pub returns-then-not-is_to_load-clause-step : goal.returns-then-not-is_to_load-clause-step
returns-then-not-is_to_load-clause-step g c =
    link_held g.K.Keeper.moment c.args.mapping.now c.args.object (c.args.number, c.args.relation.now) c.args.arena.now
    (ap (λ (o : Object). is_to_load o (c.args.number, c.args.relation.now)) (sym c.object.ensures.is) ∙ sym c.is_to_load.ensures ∙ c.if-not-is_to_load.true)

pub load_lazy-requires-clause-persistent : goal.load_lazy-requires-clause-persistent
load_lazy-requires-clause-persistent g c =
    let asked = ap (λ (o : Object). is_to_load o (c.args.number, c.args.relation.now)) (sym c.object.ensures.is) ∙ sym c.is_to_load.ensures ∙ c.if-not-is_to_load.false in
    still_persistent (object_at c.args.arena.now c.args.object) (c.args.number, c.args.relation.now) asked

pub load_lazy-requires-clause-place : goal.load_lazy-requires-clause-place
load_lazy-requires-clause-place g c = subst (λ (n : ℕ). n < length (relations_of c.args.mapping.now (object_at c.args.arena.now c.args.object).class)) (sym c.in_ok-place.ensures) c.requires.place

pub returns-clause-step : goal.returns-clause-step
returns-clause-step g c =
    link_loaded g.K.Keeper.moment c.args.mapping.now c.args.object (c.args.number, c.args.relation.now) c.args.arena.now
    (ap (λ (o : Object). is_to_load o (c.args.number, c.args.relation.now)) (sym c.object.ensures.is) ∙ sym c.is_to_load.ensures ∙ c.if-not-is_to_load.false)
    (subst (λ (n : ℕ). Loads g.K.Keeper.moment (load_lazy c.args.mapping.now c.args.object (record { 0 = n })) (loading c.args.arena.now c.args.notes.now, c.args.keeper.now) c.load_lazy.result (loading c.load_lazy.new.arena c.load_lazy.new.notes, c.load_lazy.new.keeper)) c.in_ok-place.ensures c.load_lazy.ensures.step)

pub returns-in_err-place-clause-step : goal.returns-in_err-place-clause-step
returns-in_err-place-clause-step g c = passed_on c.from_residual.ensures.1 no_memory

pub returns-clause-shown : goal.returns-clause-shown
returns-clause-shown g c =
    if_shown c.args.mapping.now c.args.object (loading c.args.arena.now c.args.notes.now, g.K.Keeper.moment c.args.keeper.now) (loading c.load_lazy.new.arena c.load_lazy.new.notes, g.K.Keeper.moment c.load_lazy.new.keeper) c.load_lazy.result c.load_lazy.ensures.shown

pub returns-then-not-is_to_load-clause-grows : goal.returns-then-not-is_to_load-clause-grows
returns-then-not-is_to_load-clause-grows g c = grows_same c.args.arena.now c.args.arena.now refl

pub returns-in_err-place-clause-grows : goal.returns-in_err-place-clause-grows
returns-in_err-place-clause-grows g c = grows_same c.args.arena.now c.args.arena.now refl

pub returns-in_err-place-clause-shown : goal.returns-in_err-place-clause-shown
returns-in_err-place-clause-shown g c = let scene : Scene = (loading c.args.arena.now c.args.notes.now, g.K.Keeper.moment c.args.keeper.now) in
    passed_memory (IsShownAfter c.args.mapping.now c.args.object scene scene) c.from_residual.result c.from_residual.ensures.1 (memory_shown c.args.mapping.now c.args.object scene scene)
