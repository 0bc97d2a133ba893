-- What is told of what a line did, byte by byte.
use Rattle.std.specs.Prelude.{ℕ, List, [], ◌++◌, codes, if◌then◌else◌}
use Rattle.std.specs.List.{flat_map}
use Rattle.std.specs.Fmt.{decimal}
use Rattle.base_core.specs.declared.refusal.Warning.{Warning}
use Rattle.class_mapping.specs.Mapped.{Mapped}
use Rattle.object_arena.specs.Graph.{Graph}
use Rattle.keeper_core.specs.declared.sent.Sent.{Sent}
use Rattle.keeper_core.specs.declared.notes.Note.{Note}
use Rattle.keeper_core.specs.declared.notes.Note.TheVariants as note
use Rattle.printing.specs.Texts.{warning_text}
use Rattle.schema_core.specs.Catalog.{Catalog}
use Rattle.statement_lines.specs.Echo.{note_alters, sent_lines}
use Rattle.shell_replies.specs.declared.notes.PrintOptions.{PrintOptions}
use Rattle.shell_replies.specs.Naming.{session_names}

-- under an echo, the lines of a statement that was sent
abbrev pub statement_lines : PrintOptions → Catalog → Sent → List ℕ
statement_lines options schema statement = if options.echo then sent_lines options.dialect schema statement else []

-- the line `warning LINE: WARNING`
abbrev pub warning_line : Mapped → Graph → ℕ → Warning → List ℕ
warning_line mapped graph line warning = codes "warning " ++ decimal line ++ codes ": " ++ warning_text (session_names mapped graph) warning ++ codes "\n"

-- a statement under an echo, a warning, or nothing
abbrev pub note_lines : PrintOptions → ℕ → Mapped → Graph → Note → List ℕ
note_lines options line mapped graph (note.Sent statement) = statement_lines options mapped.schema statement
note_lines options line mapped graph (note.Warn warning) = warning_line mapped graph line warning
note_lines options line mapped graph (note.Filled object) = []

-- under an echo, the foreign keys that are added once all tables are made
abbrev pub later_lines : PrintOptions → Catalog → List Note → List ℕ
later_lines options schema notes = if options.echo then flat_map (note_alters options.dialect schema) notes else []

-- what is told of what the line of a number did: warnings, and under an echo statements, in the order of their happening
abbrev pub notes_text : PrintOptions → ℕ → Mapped → Graph → List Note → List ℕ
notes_text options line mapped graph notes = flat_map (note_lines options line mapped graph) notes ++ later_lines options mapped.schema notes
