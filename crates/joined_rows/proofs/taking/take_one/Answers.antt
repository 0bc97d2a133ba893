use Rattle.keeper_core.proofs.Sequence.{passed_on}
use Rattle.load_calls.proofs.ReadLemmas.{passed_memory, passed_refusal}
use Rattle.load_calls.specs.Refusals.{CanRefuseRow}
use Rattle.joined_rows.proofs.MemberLemmas.{push_refused, push_taken}
use Rattle.joined_rows.proofs.TakenSteps.{taken_more}
use Rattle.base_core.specs.declared.refusal.Refusal.TheVariants.{Memory}
use Rattle.std.proofs.Common.{Err, Ok, refl}
use Rattle.joined_rows.proofs.taking.take_one.Goals as goal

pub returns-in_err-one-clause-step : goal.returns-in_err-one-clause-step
returns-in_err-one-clause-step c = passed_on c.from_residual.ensures.1 (push_refused (λ (u : Unit {0}). c.args.taken.now) c.args.taken.now c.in_err-one.ensures.step)

pub returns-clause-step : goal.returns-clause-step
returns-clause-step c = push_taken c.args.taken.now c.push.new.self _ c.in_ok-one.ensures.step c.in_ok-push.ensures.ok tt

pub returns-clause-of : goal.returns-clause-of
returns-clause-of c = λ all.
    taken_more c.args.mapping.now c.args.arena.now c.take_owner.new.arena c.args.class c.args.parts.now c.args.taken.now c.push.new.self c.in_ok-one.one (Ok tt) c.in_ok-one.ensures.grows c.in_ok-one.ensures.of c.in_ok-push.ensures.ok all

pub returns-in_err-one-clause-refuses : goal.returns-in_err-one-clause-refuses
returns-in_err-one-clause-refuses c = passed_refusal (CanRefuseRow c.args.mapping.now c.take_owner.new.arena) _ c.from_residual.result c.from_residual.ensures.1 c.in_err-one.ensures.refuses

pub returns-in_err-push-clause-refuses : goal.returns-in_err-push-clause-refuses
returns-in_err-push-clause-refuses c = passed_memory (CanRefuseRow c.args.mapping.now c.take_owner.new.arena) c.from_residual-in_err-push.result c.from_residual-in_err-push.ensures.1 tt

pub returns-in_err-push-clause-step : goal.returns-in_err-push-clause-step
returns-in_err-push-clause-step c = passed_on c.from_residual-in_err-push.ensures.1 (push_taken c.args.taken.now c.push.new.self (Err Memory) c.in_ok-one.ensures.step tt refl)
