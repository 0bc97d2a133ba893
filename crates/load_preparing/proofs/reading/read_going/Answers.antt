use Rattle.std.proofs.Common.{◌≡◌, ◌⊎◌, ◌∙◌, inr, refl, sym}
use Rattle.base_core.specs.declared.refusal.Refusal.TheVariants.{Memory}
use Rattle.keeper_core.proofs.Sequence.{passed_on, reaches_start}
use Rattle.load_filling.proofs.LoadedLemmas.{grows_same}
use Rattle.load_rows.specs.Loading.{loading}
use Rattle.load_calls.specs.Refreshing.{Scene}
use Rattle.load_calls.proofs.ReadLemmas.{passed_refusal, passed_still, stays_then, still_then}
use Rattle.load_calls.proofs.RowsLemmas.{grows_then}
use Rattle.load_preparing.specs.Preparing.{read_going}
use Rattle.load_preparing.specs.Refusals.{CanRefuseReading, IsShownReading}
use Rattle.load_preparing.proofs.ReadingLemmas.{memory_in_turn, turn_done, turn_read, turn_refused, turns_ended}
use Rattle.load_preparing.proofs.reading.read_going.Goals as goal

pub loop-turns-init : goal.loop-turns-init
loop-turns-init g c = record { step = reaches_start; ready = (c.requires.ready, refl); grows = grows_same c.args.arena.now c.args.arena.now refl; fits = c.requires.fit }

pub loop-turns-preserved : goal.loop-turns-preserved
loop-turns-preserved g c = record {
  step = turn_read g.K.Keeper.moment c.args.mapping.now c.loop-turns.turns c.in-Some.object c.loop-turns-test.true (sym c.in_ok-next.ensures.next ∙ c.in-Some.is) c.loop-turns.invariant.step c.in_ok-read_object-in-Some.ensures.step;
  ready = still_then (g.K.Keeper.moment c.args.keeper.now) (g.K.Keeper.moment c.loop-turns.keeper) (g.K.Keeper.moment c.read_object.new.keeper) c.loop-turns.invariant.ready c.in_ok-read_object-in-Some.ensures.stays;
  grows = grows_then c.args.arena.now c.loop-turns.arena c.read_object.new.arena c.loop-turns.invariant.grows c.in_ok-read_object-in-Some.ensures.grows;
  fits = c.in_ok-read_object-in-Some.ensures.fits;
}

pub read_object-requires-clause-ready : goal.read_object-requires-clause-ready
read_object-requires-clause-ready g c = c.loop-turns.invariant.ready.0

-- an object's reading was refused

pub returns-in_err-read_object-in-Some-clause-step : goal.returns-in_err-read_object-in-Some-clause-step
unfolding read_going
returns-in_err-read_object-in-Some-clause-step g c =
    passed_on c.from_residual-in_err-read_object-in-Some.ensures.1
    (turn_refused g.K.Keeper.moment c.args.mapping.now c.loop-turns.turns c.in-Some.object c.loop-turns-test.true (sym c.in_ok-next.ensures.next ∙ c.in-Some.is) c.loop-turns.invariant.step c.in_err-read_object-in-Some.ensures.step)

pub returns-in_err-read_object-in-Some-clause-stays : goal.returns-in_err-read_object-in-Some-clause-stays
returns-in_err-read_object-in-Some-clause-stays g c =
    passed_still (g.K.Keeper.moment c.args.keeper.now) (g.K.Keeper.moment c.read_object.new.keeper) _ c.from_residual-in_err-read_object-in-Some.result c.from_residual-in_err-read_object-in-Some.ensures.1
    (stays_then (g.K.Keeper.moment c.args.keeper.now) (g.K.Keeper.moment c.loop-turns.keeper) (g.K.Keeper.moment c.read_object.new.keeper) _ c.loop-turns.invariant.ready c.in_err-read_object-in-Some.ensures.stays)

pub returns-in_err-read_object-in-Some-clause-grows : goal.returns-in_err-read_object-in-Some-clause-grows
returns-in_err-read_object-in-Some-clause-grows g c = grows_then c.args.arena.now c.loop-turns.arena c.read_object.new.arena c.loop-turns.invariant.grows c.in_err-read_object-in-Some.ensures.grows

pub returns-in_err-read_object-in-Some-clause-refuses : goal.returns-in_err-read_object-in-Some-clause-refuses
returns-in_err-read_object-in-Some-clause-refuses g c =
    passed_refusal (λ e. (e ≡ Memory) ⊎ CanRefuseReading c.args.mapping.now c.read_object.new.arena e) _ c.from_residual-in_err-read_object-in-Some.result c.from_residual-in_err-read_object-in-Some.ensures.1
    (inr (c.in-Some.object, c.in_err-read_object-in-Some.ensures.refuses))

pub returns-in_err-read_object-in-Some-clause-shown : goal.returns-in_err-read_object-in-Some-clause-shown
returns-in_err-read_object-in-Some-clause-shown g c =
    let before : Scene = (loading c.args.arena.now c.args.notes.now, g.K.Keeper.moment c.args.keeper.now) in
    let mid : Scene = (loading c.loop-turns.arena c.loop-turns.notes, g.K.Keeper.moment c.loop-turns.keeper) in
    let after : Scene = (loading c.read_object.new.arena c.read_object.new.notes, g.K.Keeper.moment c.read_object.new.keeper) in
    passed_refusal (λ e. (e ≡ Memory) ⊎ IsShownReading c.args.mapping.now before after e) _ c.from_residual-in_err-read_object-in-Some.result c.from_residual-in_err-read_object-in-Some.ensures.1
    (inr
    (record {
      object = c.in-Some.object;
      turn = mid;
      since = c.loop-turns.invariant.grows;
      next = sym c.in_ok-next.ensures.next ∙ c.in-Some.is;
      cause = c.in_err-read_object-in-Some.ensures.refuses;
      shown = c.in_err-read_object-in-Some.ensures.shown;
    }))

-- memory ran out

pub returns-in_err-next-clause-step : goal.returns-in_err-next-clause-step
unfolding read_going
returns-in_err-next-clause-step g c = passed_on c.from_residual.ensures.1 (memory_in_turn g.K.Keeper.moment c.loop-turns.invariant.step)

-- all is read

pub returns-in-None-clause-step : goal.returns-in-None-clause-step
unfolding read_going
returns-in-None-clause-step g c = turn_done g.K.Keeper.moment c.args.mapping.now c.loop-turns.turns c.loop-turns-test.true (sym c.in_ok-next.ensures.next ∙ c.in-None.is) c.loop-turns.invariant.step

pub returns-clause-step : goal.returns-clause-step
unfolding read_going
returns-clause-step g c = turns_ended g.K.Keeper.moment c.args.mapping.now c.loop-turns.turns c.loop-turns-test.false c.loop-turns.invariant.step
