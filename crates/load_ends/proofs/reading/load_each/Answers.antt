use Rattle.std.proofs.Common.{refl, rules, subst, sym, List}
use Rattle.std.specs.List.{All}
use Rattle.std.proofs.lemmas.List.Elements.{All-drop, All-take}
use Rattle.base_core.specs.declared.value.Value.{Value}
use Rattle.keeper_core.proofs.Sequence.{each_end, each_err, each_turn, passed_on}
use Rattle.load_filling.proofs.LoadedLemmas.{grows_same}
use Rattle.load_calls.proofs.RowsLemmas.{grows_then}
use Rattle.load_rows.specs.Loading.{loading}
use Rattle.load_batches.specs.Batches.{batch_size}
use Rattle.load_ends.specs.Ends.{FitsClass, load_from}
use Rattle.load_ends.proofs.ReadSteps.{batch_run, batches_start}
use Rattle.load_calls.specs.Refusals.{CanRefuseRows}
use Rattle.load_calls.proofs.ReadLemmas.{passed_refusal, passed_still, stays_then, still_then}
use Rattle.load_ends.proofs.reading.load_each.Goals as goal

pub loop-start-init : goal.loop-start-init
loop-start-init g c = record {
  step = batches_start g.K.Keeper.moment c.args.mapping.now c.args.class c.args.keys.now c.args.starts.now (loading c.args.arena.now c.args.notes.now) c.args.keeper.now;
  ready = (c.requires.ready, refl);
  grows = grows_same c.args.arena.now c.args.arena.now refl;
  fits = c.requires.fit;
}

pub load_keys-requires-clause-keys : goal.load_keys-requires-clause-keys
load_keys-requires-clause-keys g c =
    subst (λ (keys : List (List Value)). All (FitsClass c.args.mapping.now c.args.class) keys) (sym c.batch_at-batch.ensures)
    (All-take (FitsClass c.args.mapping.now c.args.class) batch_size _ (All-drop (FitsClass c.args.mapping.now c.args.class) _ c.args.keys.now c.requires.keys))

pub returns-in_err-load_keys-clause-step : goal.returns-in_err-load_keys-clause-step
returns-in_err-load_keys-clause-step g c =
    passed_on c.from_residual.ensures.1
    (each_err (load_from c.args.mapping.now c.args.class c.args.keys.now) c.args.starts.now c.loop-start.start-index c.loop-start.invariant.step c.loop-start-test.true (search rules)
    (batch_run g.K.Keeper.moment c.args.mapping.now c.args.class c.args.keys.now _ _ c.batch_at-batch.ensures c.in_err-load_keys.ensures.step))

pub returns-in_err-load_keys-clause-grows : goal.returns-in_err-load_keys-clause-grows
returns-in_err-load_keys-clause-grows g c = grows_then c.args.arena.now c.loop-start.arena c.load_keys.new.arena c.loop-start.invariant.grows c.in_err-load_keys.ensures.grows

pub loop-start-preserved : goal.loop-start-preserved
loop-start-preserved g c = record {
  step =
      each_turn (load_from c.args.mapping.now c.args.class c.args.keys.now) c.args.starts.now c.loop-start.start-index c.loop-start.invariant.step c.loop-start-test.true (search rules)
      (batch_run g.K.Keeper.moment c.args.mapping.now c.args.class c.args.keys.now _ _ c.batch_at-batch.ensures c.in_ok-load_keys.ensures.step) refl;
  ready = still_then (g.K.Keeper.moment c.args.keeper.now) (g.K.Keeper.moment c.loop-start.keeper) (g.K.Keeper.moment c.load_keys.new.keeper) c.loop-start.invariant.ready c.in_ok-load_keys.ensures.stays;
  grows = grows_then c.args.arena.now c.loop-start.arena c.load_keys.new.arena c.loop-start.invariant.grows c.in_ok-load_keys.ensures.grows;
  fits = c.in_ok-load_keys.ensures.fits;
}

pub returns-clause-step : goal.returns-clause-step
returns-clause-step g c = each_end (load_from c.args.mapping.now c.args.class c.args.keys.now) c.args.starts.now c.loop-start.start-index c.loop-start.invariant.step c.loop-start-test.false refl

pub returns-in_err-load_keys-clause-refuses : goal.returns-in_err-load_keys-clause-refuses
returns-in_err-load_keys-clause-refuses g c = passed_refusal (CanRefuseRows c.args.mapping.now c.load_keys.new.arena) _ c.from_residual.result c.from_residual.ensures.1 c.in_err-load_keys.ensures.refuses

pub load_keys-requires-clause-ready : goal.load_keys-requires-clause-ready
load_keys-requires-clause-ready g c = c.loop-start.invariant.ready.0

pub returns-in_err-load_keys-clause-stays : goal.returns-in_err-load_keys-clause-stays
returns-in_err-load_keys-clause-stays g c = passed_still (g.K.Keeper.moment c.args.keeper.now) (g.K.Keeper.moment c.load_keys.new.keeper) _ c.from_residual.result c.from_residual.ensures.1
    (stays_then (g.K.Keeper.moment c.args.keeper.now) (g.K.Keeper.moment c.loop-start.keeper) (g.K.Keeper.moment c.load_keys.new.keeper) _ c.loop-start.invariant.ready c.in_err-load_keys.ensures.stays)
