use Rattle.std.proofs.Common.{◌≡◌, ◌++◌, take}
use Rattle.std.specs.List.{flat_map}
use Rattle.shell_replies.specs.Notes.{note_lines}
use Rattle.shell_replies.proofs.notes.put_each.Given as goal

abbrev pub invariant-loop-note : goal.invariant-loop-note
invariant-loop-note l = l.reply ≡ l.initial.reply ++ flat_map (note_lines l.options l.line l.names.mapping.now l.names.arena.now) (take l.note-index l.notes)
