use Rattle.keeper_core.proofs.Sequence.{passed_on}
use Rattle.load_calls.proofs.ReadLemmas.{passed_memory, passed_refusal}
use Rattle.load_calls.specs.Refusals.{CanRefuseRow}
use Rattle.joined_rows.proofs.MemberLemmas.{one_more, push_refused, push_taken}
use Rattle.base_core.specs.declared.refusal.Refusal.TheVariants.{Memory}
use Rattle.std.proofs.Common.{Err, Ok, refl}
use Rattle.joined_rows.proofs.members.take_next.Goals as goal

pub returns-in_err-member-clause-step : goal.returns-in_err-member-clause-step
returns-in_err-member-clause-step c = passed_on c.from_residual.ensures.1 (push_refused (λ (u : Unit {0}). c.args.members.now) c.args.members.now c.in_err-member.ensures.step)

pub returns-clause-step : goal.returns-clause-step
returns-clause-step c = push_taken c.args.members.now c.push.new.self _ c.in_ok-member.ensures.step c.in_ok-push.ensures.ok tt

pub returns-in_err-member-clause-refuses : goal.returns-in_err-member-clause-refuses
returns-in_err-member-clause-refuses c = passed_refusal (CanRefuseRow c.args.mapping.now c.take_member.new.arena) _ c.from_residual.result c.from_residual.ensures.1 c.in_err-member.ensures.refuses

pub returns-in_err-push-clause-refuses : goal.returns-in_err-push-clause-refuses
returns-in_err-push-clause-refuses c = passed_memory (CanRefuseRow c.args.mapping.now c.take_member.new.arena) c.from_residual-in_err-push.result c.from_residual-in_err-push.ensures.1 tt

pub returns-clause-of : goal.returns-clause-of
returns-clause-of c =
    one_more c.args.mapping.now c.take_member.new.arena.roots c.args.part c.args.members.now c.push.new.self c.in_ok-member.member (Ok tt) c.in_ok-push.ensures.ok c.in_ok-member.ensures.of

pub returns-in_err-push-clause-step : goal.returns-in_err-push-clause-step
returns-in_err-push-clause-step c = passed_on c.from_residual-in_err-push.ensures.1 (push_taken c.args.members.now c.push.new.self (Err Memory) c.in_ok-member.ensures.step tt refl)
