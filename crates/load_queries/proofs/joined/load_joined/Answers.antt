use Rattle.std.proofs.Common.{refl, subst, sym}
use Rattle.std.specs.List.{All}
use Rattle.class_mapping.specs.Mapped.{IsClass}
use Rattle.keeper_core.proofs.Sequence.{no_memory, passed_on}
use Rattle.load_filling.proofs.LoadedLemmas.{grows_same}
use Rattle.load_calls.proofs.ReadLemmas.{passed_memory, passed_refusal, passed_stays, ready_stays}
use Rattle.load_calls.specs.Refusals.{CanRefuseQuery}
use Rattle.load_calls.proofs.RefusalLemmas.{refused_rows_of_query, select_of_query}
use Rattle.main_selects.specs.MainSelect.{main_select}
use Rattle.load_queries.specs.Joined.{IsPartOf}
use Rattle.load_queries.proofs.AnswerSteps.{joined_loaded, joined_refused, rows_of_parts}
use Rattle.load_queries.proofs.joined.load_joined.Goals as goal

pub returns-in_err-parts-clause-step : goal.returns-in_err-parts-clause-step
returns-in_err-parts-clause-step g c = passed_on c.from_residual.ensures.1 no_memory

pub returns-in_err-parts-clause-stays : goal.returns-in_err-parts-clause-stays
returns-in_err-parts-clause-stays g c = passed_stays (g.K.Keeper.moment c.args.keeper.now) (g.K.Keeper.moment c.args.keeper.now) c.from_residual.result c.from_residual.ensures.1

pub returns-in_err-parts-clause-grows : goal.returns-in_err-parts-clause-grows
returns-in_err-parts-clause-grows g c = grows_same c.args.arena.now c.args.arena.now refl

pub returns-in_err-parts-clause-refuses : goal.returns-in_err-parts-clause-refuses
returns-in_err-parts-clause-refuses g c = passed_memory (CanRefuseQuery c.args.mapping.now c.args.arena.now (main_select c.args.mapping.now c.args.query.now)) c.from_residual.result c.from_residual.ensures.1 tt

pub returns-in_err-rows-clause-step : goal.returns-in_err-rows-clause-step
returns-in_err-rows-clause-step g c =
    passed_on c.from_residual-in_err-rows.ensures.1 (joined_refused g.K.Keeper.moment c.args.mapping.now c.args.query.now (c.in_err-rows.ensures.step c.args.arena.now))

pub returns-in_err-rows-clause-grows : goal.returns-in_err-rows-clause-grows
returns-in_err-rows-clause-grows g c = grows_same c.args.arena.now c.args.arena.now refl

pub returns-in_err-rows-clause-refuses : goal.returns-in_err-rows-clause-refuses
returns-in_err-rows-clause-refuses g c = passed_refusal (CanRefuseQuery c.args.mapping.now c.args.arena.now (main_select c.args.mapping.now c.args.query.now)) _ c.from_residual-in_err-rows.result c.from_residual-in_err-rows.ensures.1 (select_of_query c.args.mapping.now (main_select c.args.mapping.now c.args.query.now) c.args.arena.now _ c.in_err-rows.ensures.refuses)

pub take_answers-requires-clause-targets : goal.take_answers-requires-clause-targets
take_answers-requires-clause-targets g c = subst (All (λ part. IsClass c.args.mapping.now part.target)) (sym c.as_slice.ensures) (c.in_ok-parts.ensures.targets c.in_ok-rows.ensures.related)

pub take_answers-requires-clause-parts : goal.take_answers-requires-clause-parts
take_answers-requires-clause-parts g c = subst (All (IsPartOf c.args.mapping.now c.args.query.now.class)) (sym c.as_slice.ensures) c.in_ok-parts.ensures.of

pub take_answers-requires-clause-rows : goal.take_answers-requires-clause-rows
take_answers-requires-clause-rows g c =
    rows_of_parts c.args.mapping.now c.args.query.now c.in_ok-parts.parts c.as_slice.result.now c.in_ok-rows.rows c.as_slice-2.result.now c.in_ok-parts.ensures.parts c.as_slice.ensures c.as_slice-2.ensures c.in_ok-rows.ensures.rows

pub returns-clause-step : goal.returns-clause-step
returns-clause-step g c =
    joined_loaded g.K.Keeper.moment c.args.mapping.now c.args.query.now c.in_ok-parts.parts c.as_slice.result.now c.in_ok-rows.rows c.as_slice-2.result.now c.in_ok-parts.ensures.parts c.as_slice.ensures c.as_slice-2.ensures
    (c.in_ok-rows.ensures.step c.args.arena.now) c.take_answers.ensures.step

pub returns-clause-stays : goal.returns-clause-stays
returns-clause-stays g c = ready_stays (g.K.Keeper.moment c.args.keeper.now) (g.K.Keeper.moment c.read_rows.new.keeper) c.take_answers.result c.in_ok-rows.ensures.stays

pub returns-clause-refuses : goal.returns-clause-refuses
returns-clause-refuses g c = refused_rows_of_query c.args.mapping.now (main_select c.args.mapping.now c.args.query.now) c.take_answers.new.arena c.take_answers.result c.take_answers.ensures.refuses
