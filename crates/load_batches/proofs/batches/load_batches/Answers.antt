use Rattle.std.proofs.Common.{refl}
use Rattle.keeper_core.proofs.Sequence.{no_memory, passed_on}
use Rattle.load_filling.proofs.LoadedLemmas.{grows_same}
use Rattle.load_calls.proofs.ReadLemmas.{passed_memory, passed_stays}
use Rattle.load_calls.specs.Refusals.{CanRefuseRows}
use Rattle.load_batches.proofs.BatchSteps.{batches_read}
use Rattle.load_batches.proofs.batches.load_batches.Goals as goal

pub returns-in_err-starts-clause-step : goal.returns-in_err-starts-clause-step
returns-in_err-starts-clause-step g c = passed_on c.from_residual.ensures.1 no_memory

pub returns-in_err-starts-clause-stays : goal.returns-in_err-starts-clause-stays
returns-in_err-starts-clause-stays g c = passed_stays (g.K.Keeper.moment c.args.keeper.now) (g.K.Keeper.moment c.args.keeper.now) c.from_residual.result c.from_residual.ensures.1

pub returns-in_err-starts-clause-grows : goal.returns-in_err-starts-clause-grows
returns-in_err-starts-clause-grows g c = grows_same c.args.arena.now c.args.arena.now refl

pub returns-in_err-starts-clause-refuses : goal.returns-in_err-starts-clause-refuses
returns-in_err-starts-clause-refuses g c = passed_memory (CanRefuseRows c.args.mapping.now c.args.arena.now) c.from_residual.result c.from_residual.ensures.1 tt

pub returns-clause-step : goal.returns-clause-step
returns-clause-step g c =
    batches_read g.K.Keeper.moment c.args.mapping.now c.args.relation.now c.args.place c.args.owners.now c.in_ok-starts.starts.items c.as_slice.result.now c.in_ok-starts.ensures c.as_slice.ensures.value c.load_each.ensures.step
