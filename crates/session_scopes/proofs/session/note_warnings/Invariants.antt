use Rattle.std.proofs.Common.{◌≡◌, ◌++◌, map, take}
use Rattle.keeper_core.specs.declared.notes.Note.TheVariants as note
use Rattle.session_scopes.proofs.session.note_warnings.Given as goal

abbrev pub invariant-loop-warning : goal.invariant-loop-warning
invariant-loop-warning l = l.notes ≡ l.initial.notes ++ map note.Warn (take l.warning-index l.warnings)
