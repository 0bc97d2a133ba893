use Rattle.std.proofs.Common.{refl, subst, sym}
use Rattle.std.specs.List.{AllByRecursion}
use Rattle.keeper_core.proofs.Sequence.{passed_on}
use Rattle.load_filling.proofs.LoadedLemmas.{grows_same}
use Rattle.load_rows.specs.Reading.{IsRowOf}
use Rattle.load_calls.proofs.ReadLemmas.{passed_refusal, ready_stays}
use Rattle.load_calls.proofs.RefusalLemmas.{refused_rows_of_query, select_of_query}
use Rattle.load_queries.proofs.QuerySteps.{query_loaded, query_refused}
use Rattle.load_calls.specs.Refusals.{CanRefuseQuery}
use Rattle.load_queries.proofs.queries.load_select.Goals as goal

pub returns-in_err-rows-clause-step : goal.returns-in_err-rows-clause-step
returns-in_err-rows-clause-step g c = passed_on c.from_residual.ensures.1 (query_refused g.K.Keeper.moment c.args.mapping.now c.args.query.now (c.in_err-rows.ensures.step c.args.arena.now))

pub returns-in_err-rows-clause-grows : goal.returns-in_err-rows-clause-grows
returns-in_err-rows-clause-grows g c = grows_same c.args.arena.now c.args.arena.now refl

pub take_objects-requires-clause-rows : goal.take_objects-requires-clause-rows
take_objects-requires-clause-rows g c = subst (AllByRecursion (IsRowOf c.args.mapping.now c.args.query.now.class)) (sym c.as_slice.ensures) c.in_ok-rows.ensures.rows

pub returns-clause-step : goal.returns-clause-step
returns-clause-step g c =
    query_loaded g.K.Keeper.moment c.args.mapping.now c.args.query.now c.in_ok-rows.rows c.as_slice.result.now c.as_slice.ensures (c.in_ok-rows.ensures.step c.args.arena.now) c.take_objects.ensures.step

pub returns-clause-stays : goal.returns-clause-stays
returns-clause-stays g c = ready_stays (g.K.Keeper.moment c.args.keeper.now) (g.K.Keeper.moment c.read_rows.new.keeper) c.take_objects.result c.in_ok-rows.ensures.stays

pub returns-clause-refuses : goal.returns-clause-refuses
returns-clause-refuses g c = refused_rows_of_query c.args.mapping.now c.args.query.now.select c.take_objects.new.arena c.take_objects.result c.take_objects.ensures.refuses

pub returns-in_err-rows-clause-refuses : goal.returns-in_err-rows-clause-refuses
returns-in_err-rows-clause-refuses g c = passed_refusal (CanRefuseQuery c.args.mapping.now c.args.arena.now c.args.query.now.select) _ c.from_residual.result c.from_residual.ensures.1 (select_of_query c.args.mapping.now c.args.query.now.select c.args.arena.now _ c.in_err-rows.ensures.refuses)
