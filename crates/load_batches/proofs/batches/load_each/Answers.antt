use Rattle.std.proofs.Common.{refl, rules, subst, sym, List}
use Rattle.std.specs.List.{All}
use Rattle.keeper_core.proofs.Sequence.{each_end, each_err, each_turn, passed_on}
use Rattle.load_filling.proofs.LoadedLemmas.{grows_same}
use Rattle.load_calls.proofs.RowsLemmas.{grows_then}
use Rattle.load_rows.specs.Loading.{loading}
use Rattle.load_batches.specs.Batches.{IsOwned, load_from}
use Rattle.load_batches.specs.declared.owners.Owner.{Owner}
use Rattle.load_batches.proofs.BatchSteps.{batch_run, batches_start}
use Rattle.load_batches.proofs.OwnerSteps.{batch_all, owned_still}
use Rattle.load_calls.specs.Refusals.{CanRefuseRows}
use Rattle.load_calls.proofs.ReadLemmas.{passed_refusal, passed_still, stays_then, still_then}
use Rattle.load_batches.proofs.batches.load_each.Goals as goal

pub loop-start-init : goal.loop-start-init
loop-start-init g c = record {
  step = batches_start g.K.Keeper.moment c.args.mapping.now c.args.relation.now c.args.place c.args.owners.now c.args.starts.now (loading c.args.arena.now c.args.notes.now) c.args.keeper.now;
  ready = (c.requires.ready, refl);
  grows = grows_same c.args.arena.now c.args.arena.now refl;
  fits = c.requires.fit;
}

pub load_batch-requires-clause-owned : goal.load_batch-requires-clause-owned
load_batch-requires-clause-owned g c =
    subst (λ (owners : List Owner). All (IsOwned c.args.mapping.now c.loop-start.arena c.args.relation.now c.args.place) owners) (sym c.batch_at-batch.ensures)
    (batch_all (IsOwned c.args.mapping.now c.loop-start.arena c.args.relation.now c.args.place) c.args.owners.now _
    (owned_still c.args.mapping.now c.args.arena.now c.loop-start.arena c.args.relation.now c.args.place c.args.owners.now c.loop-start.invariant.grows c.requires.owned))

pub returns-in_err-load_batch-clause-step : goal.returns-in_err-load_batch-clause-step
returns-in_err-load_batch-clause-step g c =
    passed_on c.from_residual.ensures.1
    (each_err (load_from c.args.mapping.now c.args.relation.now c.args.place c.args.owners.now) c.args.starts.now c.loop-start.start-index c.loop-start.invariant.step c.loop-start-test.true (search rules)
    (batch_run g.K.Keeper.moment c.args.mapping.now c.args.relation.now c.args.place c.args.owners.now _ _ c.batch_at-batch.ensures c.in_err-load_batch.ensures.step))

pub returns-in_err-load_batch-clause-grows : goal.returns-in_err-load_batch-clause-grows
returns-in_err-load_batch-clause-grows g c = grows_then c.args.arena.now c.loop-start.arena c.load_batch.new.arena c.loop-start.invariant.grows c.in_err-load_batch.ensures.grows

pub loop-start-preserved : goal.loop-start-preserved
loop-start-preserved g c = record {
  step =
      each_turn (load_from c.args.mapping.now c.args.relation.now c.args.place c.args.owners.now) c.args.starts.now c.loop-start.start-index c.loop-start.invariant.step c.loop-start-test.true (search rules)
      (batch_run g.K.Keeper.moment c.args.mapping.now c.args.relation.now c.args.place c.args.owners.now _ _ c.batch_at-batch.ensures c.in_ok-load_batch.ensures.step) refl;
  ready = still_then (g.K.Keeper.moment c.args.keeper.now) (g.K.Keeper.moment c.loop-start.keeper) (g.K.Keeper.moment c.load_batch.new.keeper) c.loop-start.invariant.ready c.in_ok-load_batch.ensures.stays;
  grows = grows_then c.args.arena.now c.loop-start.arena c.load_batch.new.arena c.loop-start.invariant.grows c.in_ok-load_batch.ensures.grows;
  fits = c.in_ok-load_batch.ensures.fits;
}

pub returns-clause-step : goal.returns-clause-step
returns-clause-step g c = each_end (load_from c.args.mapping.now c.args.relation.now c.args.place c.args.owners.now) c.args.starts.now c.loop-start.start-index c.loop-start.invariant.step c.loop-start-test.false refl

pub returns-in_err-load_batch-clause-refuses : goal.returns-in_err-load_batch-clause-refuses
returns-in_err-load_batch-clause-refuses g c = passed_refusal (CanRefuseRows c.args.mapping.now c.load_batch.new.arena) _ c.from_residual.result c.from_residual.ensures.1 c.in_err-load_batch.ensures.refuses

pub load_batch-requires-clause-ready : goal.load_batch-requires-clause-ready
load_batch-requires-clause-ready g c = c.loop-start.invariant.ready.0

pub returns-in_err-load_batch-clause-stays : goal.returns-in_err-load_batch-clause-stays
returns-in_err-load_batch-clause-stays g c = passed_still (g.K.Keeper.moment c.args.keeper.now) (g.K.Keeper.moment c.load_batch.new.keeper) _ c.from_residual.result c.from_residual.ensures.1
    (stays_then (g.K.Keeper.moment c.args.keeper.now) (g.K.Keeper.moment c.loop-start.keeper) (g.K.Keeper.moment c.load_batch.new.keeper) _ c.loop-start.invariant.ready c.in_err-load_batch.ensures.stays)
