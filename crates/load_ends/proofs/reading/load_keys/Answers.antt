use Rattle.std.proofs.Common.{refl, subst, sym}
use Rattle.std.specs.List.{AllByRecursion}
use Rattle.keeper_core.proofs.Sequence.{passed_on}
use Rattle.load_filling.proofs.LoadedLemmas.{grows_same}
use Rattle.load_rows.specs.Reading.{IsRowOf}
use Rattle.load_calls.proofs.ReadLemmas.{passed_refusal, ready_stays}
use Rattle.load_calls.proofs.RefusalLemmas.{of_cells, refused_rows}
use Rattle.load_batches.proofs.BatchSteps.{none_there, some_there}
use Rattle.load_ends.proofs.ReadSteps.{keys_loaded, keys_refused, no_keys}
use Rattle.load_calls.specs.Refusals.{CanRefuseRows}
use Rattle.load_ends.proofs.reading.load_keys.Goals as goal

pub returns-then-is_empty-clause-step : goal.returns-then-is_empty-clause-step
returns-then-is_empty-clause-step g c = no_keys g.K.Keeper.moment c.args.mapping.now c.args.class c.args.keys.now (none_there c.args.keys.now c.if-is_empty.ensures)

pub returns-then-is_empty-clause-grows : goal.returns-then-is_empty-clause-grows
returns-then-is_empty-clause-grows g c = grows_same c.args.arena.now c.args.arena.now refl

pub read_keys-requires-clause-some : goal.read_keys-requires-clause-some
read_keys-requires-clause-some g c = some_there c.args.keys.now c.if-is_empty.ensures

pub returns-in_err-rows-clause-step : goal.returns-in_err-rows-clause-step
returns-in_err-rows-clause-step g c =
    passed_on c.from_residual.ensures.1
    (keys_refused g.K.Keeper.moment c.args.mapping.now c.args.class c.args.keys.now _ (some_there c.args.keys.now c.if-is_empty.ensures) (c.in_err-rows.ensures.step c.args.arena.now))

pub returns-in_err-rows-clause-grows : goal.returns-in_err-rows-clause-grows
returns-in_err-rows-clause-grows g c = grows_same c.args.arena.now c.args.arena.now refl

pub take_targets-requires-clause-rows : goal.take_targets-requires-clause-rows
take_targets-requires-clause-rows g c = subst (AllByRecursion (IsRowOf c.args.mapping.now c.args.class)) (sym c.as_slice.ensures) c.in_ok-rows.ensures.rows

pub returns-clause-step : goal.returns-clause-step
returns-clause-step g c =
    keys_loaded g.K.Keeper.moment c.args.mapping.now c.args.class c.args.keys.now c.in_ok-rows.rows c.as_slice.result.now (some_there c.args.keys.now c.if-is_empty.ensures) c.as_slice.ensures (c.in_ok-rows.ensures.step c.args.arena.now)
    c.take_targets.ensures.step

pub returns-clause-stays : goal.returns-clause-stays
returns-clause-stays g c = ready_stays (g.K.Keeper.moment c.args.keeper.now) (g.K.Keeper.moment c.read_keys.new.keeper) c.take_targets.result c.in_ok-rows.ensures.stays

pub returns-clause-refuses : goal.returns-clause-refuses
returns-clause-refuses g c = refused_rows c.args.mapping.now c.take_targets.new.arena c.take_targets.result c.take_targets.ensures.refuses

pub returns-in_err-rows-clause-refuses : goal.returns-in_err-rows-clause-refuses
returns-in_err-rows-clause-refuses g c = passed_refusal (CanRefuseRows c.args.mapping.now c.args.arena.now) _ c.from_residual.result c.from_residual.ensures.1 (of_cells c.args.mapping.now c.args.arena.now _ c.in_err-rows.ensures.refuses)
