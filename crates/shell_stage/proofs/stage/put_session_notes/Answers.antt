use Rattle.std.proofs.Common.{◌∙◌}
use Rattle.shell_stage.proofs.Stages.{notes_put}
use Rattle.shell_stage.proofs.stage.put_session_notes.Goals as goal

pub returns : goal.returns
returns c =
    notes_put c.put_notes.result c.args.options c.args.line c.args.reply.now c.put_notes.new.reply c.mapping-mapping.result.now c.args.session.now.mapping c.arena.result.now c.args.session.now.graph c.as_slice.result.now c.args.session.now.notes
    c.mapping-mapping.ensures c.arena.ensures.objects (c.as_slice.ensures ∙ c.notes.ensures) c.put_notes.ensures
