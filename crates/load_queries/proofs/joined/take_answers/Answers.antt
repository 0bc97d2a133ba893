use Rattle.std.proofs.Common.{Err, refl, subst, sym}
use Rattle.std.specs.List.{All}
use Rattle.keeper_core.proofs.Sequence.{passed_on}
use Rattle.load_rows.specs.Loading.{loading}
use Rattle.load_rows.proofs.TakenLemmas.{grows_filled}
use Rattle.load_calls.proofs.ReadLemmas.{passed_memory, passed_refusal}
use Rattle.load_calls.specs.Refusals.{CanRefuseRow}
use Rattle.joined_rows.specs.Taking.{IsTaken}
use Rattle.load_queries.proofs.AnswerSteps.{answers_refused, answers_taken}
use Rattle.keeper_core.proofs.AloneLemmas.{lost_alone}
use Rattle.base_core.specs.declared.refusal.Refusal.TheVariants.{Memory}
use Rattle.load_queries.proofs.joined.take_answers.Goals as goal

pub returns-in_err-taken-clause-step : goal.returns-in_err-taken-clause-step
returns-in_err-taken-clause-step c =
    passed_on c.from_residual.ensures.1
    (answers_refused c.args.mapping.now c.args.class c.args.parts.now c.args.rows.now (loading c.args.arena.now c.args.notes.now) (loading c.take_joined.new.arena c.take_joined.new.notes) _ c.in_err-taken.ensures.step)

pub returns-in_err-taken-clause-refuses : goal.returns-in_err-taken-clause-refuses
returns-in_err-taken-clause-refuses c = passed_refusal (CanRefuseRow c.args.mapping.now c.take_joined.new.arena) _ c.from_residual.result c.from_residual.ensures.1 c.in_err-taken.ensures.refuses

pub fill_taken-requires-clause-taken : goal.fill_taken-requires-clause-taken
fill_taken-requires-clause-taken c = subst (All (IsTaken c.args.mapping.now c.take_joined.new.arena.roots c.args.class c.args.parts.now)) (sym c.as_slice.ensures) c.in_ok-taken.ensures.of

pub returns-clause-step : goal.returns-clause-step
returns-clause-step c =
    answers_taken c.args.mapping.now c.args.class c.args.parts.now c.args.rows.now c.in_ok-taken.taken c.as_slice.result.now (loading c.args.arena.now c.args.notes.now) (loading c.take_joined.new.arena c.take_joined.new.notes)
    (loading c.fill_taken.new.arena c.fill_taken.new.notes) _ c.as_slice.ensures c.in_ok-taken.ensures.step c.in_ok-fill_taken.ensures.step

pub returns-in_err-fill_taken-clause-step : goal.returns-in_err-fill_taken-clause-step
returns-in_err-fill_taken-clause-step c =
    passed_on c.from_residual-in_err-fill_taken.ensures.1
    (answers_taken c.args.mapping.now c.args.class c.args.parts.now c.args.rows.now c.in_ok-taken.taken c.as_slice.result.now (loading c.args.arena.now c.args.notes.now) (loading c.take_joined.new.arena c.take_joined.new.notes)
    (loading c.fill_taken.new.arena c.fill_taken.new.notes) (Err Memory) c.as_slice.ensures c.in_ok-taken.ensures.step (lost_alone refl))

pub returns-clause-grows : goal.returns-clause-grows
returns-clause-grows c = grows_filled c.args.arena.now c.take_joined.new.arena c.fill_taken.new.arena c.in_ok-taken.ensures.grows c.in_ok-fill_taken.ensures.classes

pub returns-in_err-fill_taken-clause-grows : goal.returns-in_err-fill_taken-clause-grows
returns-in_err-fill_taken-clause-grows c = grows_filled c.args.arena.now c.take_joined.new.arena c.fill_taken.new.arena c.in_ok-taken.ensures.grows c.in_err-fill_taken.ensures.classes

pub returns-in_err-fill_taken-clause-refuses : goal.returns-in_err-fill_taken-clause-refuses
returns-in_err-fill_taken-clause-refuses c = passed_memory (CanRefuseRow c.args.mapping.now c.fill_taken.new.arena) c.from_residual-in_err-fill_taken.result c.from_residual-in_err-fill_taken.ensures.1 tt
