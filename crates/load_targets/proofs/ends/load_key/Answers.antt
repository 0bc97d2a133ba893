use Rattle.std.proofs.Common.{refl}
use Rattle.keeper_core.proofs.Sequence.{passed_on}
use Rattle.load_filling.proofs.LoadedLemmas.{grows_same}
use Rattle.load_calls.proofs.ReadLemmas.{passed_refusal, ready_stays}
use Rattle.load_calls.proofs.RefusalLemmas.{of_cells, refused_rows}
use Rattle.load_targets.proofs.EndLemmas.{key_loaded, key_refused}
use Rattle.load_calls.specs.Refusals.{CanRefuseRows}
use Rattle.load_targets.proofs.ends.load_key.Goals as goal

pub returns-in_err-rows-clause-step : goal.returns-in_err-rows-clause-step
returns-in_err-rows-clause-step g c = passed_on c.from_residual.ensures.1 (key_refused g.K.Keeper.moment c.args.mapping.now c.args.class c.args.key.now (c.in_err-rows.ensures.step c.args.arena.now))

pub returns-in_err-rows-clause-grows : goal.returns-in_err-rows-clause-grows
returns-in_err-rows-clause-grows g c = grows_same c.args.arena.now c.args.arena.now refl

pub returns-clause-step : goal.returns-clause-step
returns-clause-step g c = key_loaded g.K.Keeper.moment c.args.mapping.now c.args.class c.args.key.now (c.in_ok-rows.ensures.step c.args.arena.now) c.take_first.ensures.step

pub returns-clause-stays : goal.returns-clause-stays
returns-clause-stays g c = ready_stays (g.K.Keeper.moment c.args.keeper.now) (g.K.Keeper.moment c.read_key.new.keeper) c.take_first.result c.in_ok-rows.ensures.stays

pub returns-clause-refuses : goal.returns-clause-refuses
returns-clause-refuses g c = refused_rows c.args.mapping.now c.take_first.new.arena c.take_first.result c.take_first.ensures.refuses

pub returns-in_err-rows-clause-refuses : goal.returns-in_err-rows-clause-refuses
returns-in_err-rows-clause-refuses g c = passed_refusal (CanRefuseRows c.args.mapping.now c.args.arena.now) _ c.from_residual.result c.from_residual.ensures.1 (of_cells c.args.mapping.now c.args.arena.now _ c.in_err-rows.ensures.refuses)
