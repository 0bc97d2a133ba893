use Rattle.std.proofs.Common.{◌≡◌, ◌++◌, take, string_bytes}
use Rattle.std.specs.List.{flat_map}
use Rattle.statement_lines.specs.Echo.{note_alters}
use Rattle.statement_lines.proofs.lines.put_later_foreigns.Given as goal

abbrev pub invariant-loop-note : goal.invariant-loop-note
invariant-loop-note l = string_bytes l.text ≡ string_bytes l.initial.text ++ flat_map (note_alters l.dialect l.schema) (take l.note-index l.notes)
