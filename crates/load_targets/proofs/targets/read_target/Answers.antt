use Rattle.std.proofs.Common.{refl}
use Rattle.keeper_core.proofs.Sequence.{no_memory, passed_on}
use Rattle.load_filling.proofs.LoadedLemmas.{grows_same}
use Rattle.load_calls.proofs.ReadLemmas.{passed_memory, passed_stays}
use Rattle.load_calls.specs.Refusals.{CanRefuseRows}
use Rattle.load_targets.proofs.TargetLemmas.{target_read}
use Rattle.load_targets.proofs.targets.read_target.Goals as goal

pub returns-in_err-key-clause-step : goal.returns-in_err-key-clause-step
returns-in_err-key-clause-step g c = passed_on c.from_residual.ensures.1 no_memory

pub returns-in_err-key-clause-stays : goal.returns-in_err-key-clause-stays
returns-in_err-key-clause-stays g c = passed_stays (g.K.Keeper.moment c.args.keeper.now) (g.K.Keeper.moment c.args.keeper.now) c.from_residual.result c.from_residual.ensures.1

pub returns-in_err-key-clause-grows : goal.returns-in_err-key-clause-grows
returns-in_err-key-clause-grows g c = grows_same c.args.arena.now c.args.arena.now refl

pub returns-clause-step : goal.returns-clause-step
returns-clause-step g c = target_read g.K.Keeper.moment c.args.mapping.now c.args.relation.now c.args.child c.args.arena.now c.in_ok-key.key c.in_ok-key.ensures.key c.find_or_load.ensures.step

pub returns-in_err-key-clause-refuses : goal.returns-in_err-key-clause-refuses
returns-in_err-key-clause-refuses g c = passed_memory (CanRefuseRows c.args.mapping.now c.args.arena.now) c.from_residual.result c.from_residual.ensures.1 tt
