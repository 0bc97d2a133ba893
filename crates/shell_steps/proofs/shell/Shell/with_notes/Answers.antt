use Rattle.shell_steps.proofs.Replying.{with_notes_view}
use Rattle.shell_steps.proofs.shell.Shell.with_notes.Goals as goal

pub returns : goal.returns
returns c =
    with_notes_view (record { options = c.self.inside.options; stage = c.self.inside.stage; names = c.self.inside.names; desk = c.self.inside.desk }) c.args.self.now c.line.result c.new-told.result c.put_notes.new.reply c.put_reply.new.self c.args.reply.now
    c.self.view_is c.new-told.ensures c.line.ensures c.in_ok-put_notes.ensures c.in_ok-put_reply.ensures
