use Rattle.std.proofs.Common.{Ok, refl, subst}
use Rattle.shell_steps.specs.ShellState.{ShellState}
use Rattle.class_types.specs.Shown.{rules_of}
use Rattle.sqla_shell.specs.Outcome.{DoesLines, moment_writing}
use Rattle.keeper_core.specs.Programs.{as_refusal}
use Rattle.sqla_shell.specs.Causes.{stop_refusal}
use Rattle.sqla_shell.proofs.EndLemmas.{script_finished, script_stopped, script_too_long}
use Rattle.sqla_shell.proofs.KeepsLemmas.{beside_source, keeps_passed, keeps_then}
use Rattle.sqla_shell.proofs.script.do_script.Goals as goal

-- src/script.rt:52:11
pub returns-in_err-do_lines-clause-reference : goal.returns-in_err-do_lines-clause-reference
returns-in_err-do_lines-clause-reference g c = script_stopped (rules_of c.args.hooks.now) (moment_writing {S = ShellState} g.K.Keeper.moment g.O.Sink.written) (c.args.shell.now, c.args.keeper.now, c.args.sink.now) (c.do_lines.new.shell, c.do_lines.new.keeper, c.do_lines.new.sink) (g.S.Source.left c.args.source.now) c.in_err-do_lines.field-0.0 c.from_residual.result c.from_residual.ensures.1 (c.in_err-do_lines.ensures).reference

-- src/script.rt:50:1
pub returns-in-Finished-clause-reference : goal.returns-in-Finished-clause-reference
returns-in-Finished-clause-reference g c = script_finished (rules_of c.args.hooks.now) (moment_writing {S = ShellState} g.K.Keeper.moment g.O.Sink.written) (c.args.shell.now, c.args.keeper.now, c.args.sink.now) (c.do_lines.new.shell, c.do_lines.new.keeper, c.do_lines.new.sink) (c.finish.new.shell, c.finish.new.keeper, c.finish.new.sink) (g.S.Source.left c.args.source.now) (as_refusal stop_refusal c.finish.result)
    (subst (λ e. DoesLines (rules_of c.args.hooks.now) (g.S.Source.left c.args.source.now) (moment_writing {S = ShellState} g.K.Keeper.moment g.O.Sink.written) (c.args.shell.now, c.args.keeper.now, c.args.sink.now) (Ok e) (c.do_lines.new.shell, c.do_lines.new.keeper, c.do_lines.new.sink)) c.in-Finished.is c.in_ok-do_lines.ensures.reference) c.finish.ensures.step

-- src/script.rt:35:1
pub returns-clause-reference : goal.returns-clause-reference
returns-clause-reference g c = script_too_long (rules_of c.args.hooks.now) (moment_writing {S = ShellState} g.K.Keeper.moment g.O.Sink.written) (c.args.shell.now, c.args.keeper.now, c.args.sink.now) (c.do_lines.new.shell, c.do_lines.new.keeper, c.do_lines.new.sink) (g.S.Source.left c.args.source.now)
    (subst (λ e. DoesLines (rules_of c.args.hooks.now) (g.S.Source.left c.args.source.now) (moment_writing {S = ShellState} g.K.Keeper.moment g.O.Sink.written) (c.args.shell.now, c.args.keeper.now, c.args.sink.now) (Ok e) (c.do_lines.new.shell, c.do_lines.new.keeper, c.do_lines.new.sink)) c.in-TooLong.is c.in_ok-do_lines.ensures.reference)

pub returns-in_err-do_lines-clause-keeps : goal.returns-in_err-do_lines-clause-keeps
returns-in_err-do_lines-clause-keeps g c = keeps_passed c.from_residual.ensures.1 c.in_err-do_lines.ensures.keeps

pub returns-in-Finished-clause-keeps : goal.returns-in-Finished-clause-keeps
returns-in-Finished-clause-keeps g c = keeps_then c.in_ok-do_lines.ensures.keeps (beside_source refl c.finish.ensures.keeps)
