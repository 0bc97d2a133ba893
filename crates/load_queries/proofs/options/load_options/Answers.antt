use Rattle.std.proofs.Common.{refl, rules}
use Rattle.keeper_core.proofs.Sequence.{each_end, each_err, each_turn, passed_on}
use Rattle.load_filling.proofs.LoadedLemmas.{grows_same}
use Rattle.load_calls.proofs.RowsLemmas.{grows_then}
use Rattle.load_rows.specs.Loading.{loading}
use Rattle.load_calls.specs.Refusals.{CanRefuseRows}
use Rattle.load_calls.proofs.ReadLemmas.{passed_refusal, passed_still, stays_then, still_then}
use Rattle.load_queries.specs.Selectin.{load_option}
use Rattle.load_queries.proofs.KindLemmas.{options_start}
use Rattle.load_queries.proofs.OwnerLemmas.{objects_still}
use Rattle.load_queries.proofs.options.load_options.Goals as goal

pub loop-place-init : goal.loop-place-init
loop-place-init g c = record {
  step = options_start g.K.Keeper.moment c.args.mapping.now c.args.class c.args.objects.now c.args.places.now (loading c.args.arena.now c.args.notes.now) c.args.keeper.now;
  ready = (c.requires.ready, refl);
  grows = grows_same c.args.arena.now c.args.arena.now refl;
  fits = c.requires.fit;
}

pub load_option-requires-clause-objects : goal.load_option-requires-clause-objects
load_option-requires-clause-objects g c = objects_still c.args.arena.now c.loop-place.arena c.args.objects.now c.loop-place.invariant.grows c.requires.objects

pub returns-in_err-load_option-clause-step : goal.returns-in_err-load_option-clause-step
returns-in_err-load_option-clause-step g c =
    passed_on c.from_residual.ensures.1
    (each_err (load_option c.args.mapping.now c.args.class c.args.objects.now) c.args.places.now c.loop-place.place-index c.loop-place.invariant.step c.loop-place-test.true (search rules) c.in_err-load_option.ensures.step)

pub returns-in_err-load_option-clause-grows : goal.returns-in_err-load_option-clause-grows
returns-in_err-load_option-clause-grows g c = grows_then c.args.arena.now c.loop-place.arena c.load_option.new.arena c.loop-place.invariant.grows c.in_err-load_option.ensures.grows

pub loop-place-preserved : goal.loop-place-preserved
loop-place-preserved g c = record {
  step =
      each_turn (load_option c.args.mapping.now c.args.class c.args.objects.now) c.args.places.now c.loop-place.place-index c.loop-place.invariant.step c.loop-place-test.true (search rules) c.in_ok-load_option.ensures.step refl;
  ready = still_then (g.K.Keeper.moment c.args.keeper.now) (g.K.Keeper.moment c.loop-place.keeper) (g.K.Keeper.moment c.load_option.new.keeper) c.loop-place.invariant.ready c.in_ok-load_option.ensures.stays;
  grows = grows_then c.args.arena.now c.loop-place.arena c.load_option.new.arena c.loop-place.invariant.grows c.in_ok-load_option.ensures.grows;
  fits = c.in_ok-load_option.ensures.fits;
}

pub returns-clause-step : goal.returns-clause-step
returns-clause-step g c = each_end (load_option c.args.mapping.now c.args.class c.args.objects.now) c.args.places.now c.loop-place.place-index c.loop-place.invariant.step c.loop-place-test.false refl

pub returns-in_err-load_option-clause-refuses : goal.returns-in_err-load_option-clause-refuses
returns-in_err-load_option-clause-refuses g c = passed_refusal (CanRefuseRows c.args.mapping.now c.load_option.new.arena) _ c.from_residual.result c.from_residual.ensures.1 c.in_err-load_option.ensures.refuses

pub load_option-requires-clause-ready : goal.load_option-requires-clause-ready
load_option-requires-clause-ready g c = c.loop-place.invariant.ready.0

pub returns-in_err-load_option-clause-stays : goal.returns-in_err-load_option-clause-stays
returns-in_err-load_option-clause-stays g c = passed_still (g.K.Keeper.moment c.args.keeper.now) (g.K.Keeper.moment c.load_option.new.keeper) _ c.from_residual.result c.from_residual.ensures.1
    (stays_then (g.K.Keeper.moment c.args.keeper.now) (g.K.Keeper.moment c.loop-place.keeper) (g.K.Keeper.moment c.load_option.new.keeper) _ c.loop-place.invariant.ready c.in_err-load_option.ensures.stays)
