use Rattle.class_types.specs.Shown.{rules_of}
use Rattle.keeper_core.proofs.AloneLemmas.{alone_lost}
use Rattle.keeper_core.proofs.Sequence.{passed_on}
use Rattle.shell_steps.proofs.Replying.{early_memory, noted_ok}
use Rattle.shell_steps.proofs.shell.Shell.answer.Goals as goal

pub returns-in_err-tell_notes-clause-step : goal.returns-in_err-tell_notes-clause-step
returns-in_err-tell_notes-clause-step g c =
    passed_on c.from_residual-in_err-tell_notes.ensures.1 (noted_ok g.K.Keeper.moment (rules_of c.args.hooks.now) c.args.line.now c.in_ok-reply.ensures.step alone_lost)

pub returns-in_err-tell_notes-clause-stops : goal.returns-in_err-tell_notes-clause-stops
returns-in_err-tell_notes-clause-stops g c = early_memory c.from_residual-in_err-tell_notes.result c.from_residual-in_err-tell_notes.ensures.1

pub returns-clause-step : goal.returns-clause-step
returns-clause-step g c = noted_ok g.K.Keeper.moment (rules_of c.args.hooks.now) c.args.line.now c.in_ok-reply.ensures.step c.in_ok-tell_notes.ensures.step

pub returns-clause-ready : goal.returns-clause-ready
returns-clause-ready g c = c.in_ok-tell_notes.ensures.kept.ready (g.K.Keeper.moment c.answer_alone.new.keeper) c.in_ok-reply.ensures.ready
