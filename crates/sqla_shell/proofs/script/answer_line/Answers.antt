use Rattle.std.proofs.Common.{subst}
use Rattle.keeper_core.proofs.Sequence.{then_ok}
use Rattle.keeper_core.proofs.Lifting.{acts_answering}
use Rattle.shell_steps.specs.ShellState.{ShellState}
use Rattle.sqla_shell.specs.Outcome.{HasWritten}
use Rattle.sqla_shell.specs.Reference.{do_and_reply, writes}
use Rattle.sqla_shell.proofs.WritingLemmas.{answer_stopped, on_shell, on_sink}
use Rattle.sqla_shell.proofs.KeepsLemmas.{answered_then_wrote, shell_stopped}
use Rattle.sqla_shell.proofs.script.answer_line.Goals as goal

-- src/script.rt:104:17
pub returns-in_err-reply-clause-step : goal.returns-in_err-reply-clause-step
unfolding do_and_reply
returns-in_err-reply-clause-step g c = answer_stopped g.K.Keeper.moment g.O.Sink.written g.met.K.Keeper.coherent (λ u. u) writes c.args.sink.now c.in_err-reply.field-0.0 c.from_residual.result c.in_err-reply.ensures.stops c.from_residual.ensures.1 c.in_err-reply.ensures.step

-- src/script.rt:89:1
pub returns-clause-step : goal.returns-clause-step
unfolding do_and_reply
returns-clause-step g c = then_ok writes (on_shell g.K.Keeper.moment g.O.Sink.written g.met.K.Keeper.coherent c.args.sink.now c.in_ok-reply.ensures.step)
    (on_sink {S = ShellState} g.K.Keeper.moment g.O.Sink.written (g.O.Sink.faults c.args.sink.now) (g.O.Sink.faults c.write_all.new.sink) c.answer.new.self c.answer.new.keeper c.args.sink.now c.write_all.new.sink c.in_ok-reply.reply c.write_all.result
    (subst (λ piece. HasWritten (g.O.Sink.written c.args.sink.now) piece c.write_all.result (g.O.Sink.written c.write_all.new.sink)) c.bytes.ensures c.write_all.ensures.bytes) c.write_all.ensures.faults)

pub returns-in_err-reply-clause-keeps : goal.returns-in_err-reply-clause-keeps
returns-in_err-reply-clause-keeps g c = shell_stopped c.in_err-reply.ensures.stops c.from_residual.ensures.1 (acts_answering g.K.Keeper.moment c.in_err-reply.ensures.step)

pub returns-clause-keeps : goal.returns-clause-keeps
returns-clause-keeps g c = answered_then_wrote (acts_answering g.K.Keeper.moment c.in_ok-reply.ensures.step) c.write_all.ensures.faults
