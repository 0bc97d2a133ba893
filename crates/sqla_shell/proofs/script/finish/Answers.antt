use Rattle.std.proofs.Common.{Ok, Err, refl, subst}
use Rattle.base_core.specs.declared.refusal.Refusal.TheVariants.{Memory}
use Rattle.keeper_core.proofs.Lifting.{acts_answering}
use Rattle.keeper_core.proofs.Sequence.{done, then_ok}
use Rattle.keeper_core.specs.Programs.{Run, give, ◌>>=◌}
use Rattle.keeper_core.specs.Beside.{Beside}
use Rattle.shell_steps.specs.ShellState.{ShellState}
use Rattle.sqla_shell.specs.Outcome.{HasWritten}
use Rattle.sqla_shell.specs.Reference.{close_and_tell, end_script, writes}
use Rattle.sqla_shell.specs.declared.ending.Ending.{Ending}
use Rattle.sqla_shell.specs.declared.ending.Ending.TheVariants.{Finished}
use Rattle.sqla_shell.proofs.WritingLemmas.{answer_stopped, on_shell, on_sink, sink_stopped, stopped_then}
use Rattle.sqla_shell.proofs.KeepsLemmas.{keeps_answer, keeps_passed, keeps_then, shell_stopped, sink_wrote}
use Rattle.sqla_shell.proofs.script.finish.Goals as goal

abbrev after_closing : Unit {0} → Beside ShellState → Run (Beside ShellState) Ending
after_closing u = give Finished

abbrev after_writing : Unit {0} → Beside ShellState → Run (Beside ShellState) Ending
after_writing u = close_and_tell >>= after_closing

-- src/script.rt:124:17
pub returns-in_err-reply-clause-step : goal.returns-in_err-reply-clause-step
unfolding end_script
returns-in_err-reply-clause-step g c = answer_stopped g.K.Keeper.moment g.O.Sink.written g.met.K.Keeper.coherent (λ e. e) (λ reply. writes reply >>= after_writing) c.args.sink.now Memory c.from_residual.result refl c.from_residual.ensures.1 c.in_err-reply.ensures.step

-- src/script.rt:125:5
pub returns-in_err-write_all-clause-step : goal.returns-in_err-write_all-clause-step
unfolding end_script
returns-in_err-write_all-clause-step g c = then_ok (λ reply. writes reply >>= after_writing) (on_shell g.K.Keeper.moment g.O.Sink.written g.met.K.Keeper.coherent c.args.sink.now c.in_ok-reply.ensures.step)
    (sink_stopped {S = ShellState} g.K.Keeper.moment g.O.Sink.written (g.O.Sink.faults c.args.sink.now) (g.O.Sink.faults c.write_all.new.sink) (λ e. e) after_writing c.answer_end.new.self c.args.keeper.now c.args.sink.now c.write_all.new.sink c.in_ok-reply.reply
    c.in_err-write_all.field-0.0 c.from_residual-in_err-write_all.result
    (subst (λ piece. HasWritten (g.O.Sink.written c.args.sink.now) piece (Err c.in_err-write_all.field-0.0) (g.O.Sink.written c.write_all.new.sink)) c.bytes.ensures c.in_err-write_all.ensures.bytes)
    c.in_err-write_all.ensures.faults c.from_residual-in_err-write_all.ensures.1)

pub returns-in_err-close-clause-step : goal.returns-in_err-close-clause-step
unfolding end_script
returns-in_err-close-clause-step g c = then_ok (λ reply. writes reply >>= after_writing) (on_shell g.K.Keeper.moment g.O.Sink.written g.met.K.Keeper.coherent c.args.sink.now c.in_ok-reply.ensures.step)
    (then_ok after_writing (on_sink {S = ShellState} g.K.Keeper.moment g.O.Sink.written (g.O.Sink.faults c.args.sink.now) (g.O.Sink.faults c.write_all.new.sink) c.answer_end.new.self c.args.keeper.now c.args.sink.now c.write_all.new.sink c.in_ok-reply.reply (Ok tt)
    (subst (λ piece. HasWritten (g.O.Sink.written c.args.sink.now) piece (Ok tt) (g.O.Sink.written c.write_all.new.sink)) c.bytes.ensures c.in_ok-write_all.ensures.bytes) c.in_ok-write_all.ensures.faults)
    (stopped_then (λ e. e) after_closing c.in_err-close.field-0.0 c.from_residual-in_err-close.result c.from_residual-in_err-close.ensures.1 c.in_err-close.ensures.step))

pub returns-clause-step : goal.returns-clause-step
unfolding end_script
returns-clause-step g c = then_ok (λ reply. writes reply >>= after_writing) (on_shell g.K.Keeper.moment g.O.Sink.written g.met.K.Keeper.coherent c.args.sink.now c.in_ok-reply.ensures.step)
    (then_ok after_writing (on_sink {S = ShellState} g.K.Keeper.moment g.O.Sink.written (g.O.Sink.faults c.args.sink.now) (g.O.Sink.faults c.write_all.new.sink) c.answer_end.new.self c.args.keeper.now c.args.sink.now c.write_all.new.sink c.in_ok-reply.reply (Ok tt)
    (subst (λ piece. HasWritten (g.O.Sink.written c.args.sink.now) piece (Ok tt) (g.O.Sink.written c.write_all.new.sink)) c.bytes.ensures c.in_ok-write_all.ensures.bytes) c.in_ok-write_all.ensures.faults)
    (then_ok after_closing c.in_ok-close.ensures.step (done refl)))

pub returns-in_err-reply-clause-keeps : goal.returns-in_err-reply-clause-keeps
returns-in_err-reply-clause-keeps g c = shell_stopped {e = Memory} refl c.from_residual.ensures.1 (acts_answering g.K.Keeper.moment c.in_err-reply.ensures.step)

pub returns-in_err-write_all-clause-keeps : goal.returns-in_err-write_all-clause-keeps
returns-in_err-write_all-clause-keeps g c = keeps_passed {X = Unit {0}} c.from_residual-in_err-write_all.ensures.1 (sink_wrote c.in_err-write_all.ensures.faults)

pub returns-in_err-close-clause-keeps : goal.returns-in_err-close-clause-keeps
returns-in_err-close-clause-keeps g c = keeps_then (sink_wrote {X = Unit {0}} {r = Ok tt} c.in_ok-write_all.ensures.faults) (keeps_passed {X = Unit {0}} c.from_residual-in_err-close.ensures.1 c.in_err-close.ensures.keeps)

pub returns-clause-keeps : goal.returns-clause-keeps
returns-clause-keeps g c = keeps_then (sink_wrote {X = Unit {0}} {r = Ok tt} c.in_ok-write_all.ensures.faults) (keeps_answer c.in_ok-close.ensures.keeps)
