use Rattle.shell_steps.proofs.Replying.{notes_kept_view, notes_told_view}
use Rattle.shell_steps.proofs.shell.Shell.tell_notes.Goals as goal

pub invariant_of-self : goal.invariant_of-self
invariant_of-self c = c.forget_notes.ensures.kept.bound c.self.inside.names c.self.invariant

pub returns-clause-step : goal.returns-clause-step
returns-clause-step c =
    notes_told_view c.args.reply c.in_ok-told.told (record { options = c.self.inside.options; stage = c.self.inside.stage; names = c.self.inside.names; desk = c.self.inside.desk }) c.args.self.now c.forget_notes.new.self c.self.view_is c.in_ok-told.ensures c.forget_notes.ensures.stage

pub returns-clause-kept : goal.returns-clause-kept
returns-clause-kept c = notes_kept_view (record { options = c.self.inside.options; stage = c.self.inside.stage; names = c.self.inside.names; desk = c.self.inside.desk }) c.args.self.now c.forget_notes.new.self c.self.view_is c.forget_notes.ensures.kept
