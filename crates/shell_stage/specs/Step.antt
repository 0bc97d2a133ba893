-- What lines make of a stage, what they ask of its session, and what is told with its names.
use Rattle.std.specs.Prelude.{ℕ, List, [], Result, Ok, Err}
use Rattle.base_core.specs.declared.refusal.RequestKind.TheVariants.{Configured as IsConfigured}
use Rattle.base_core.specs.declared.refusal.Refusal.{Refusal}
use Rattle.base_core.specs.declared.refusal.Refusal.TheVariants.{InvalidRequestError}
use Rattle.class_types.specs.Rules.{Rules}
use Rattle.printing.specs.Texts.{Names}
use Rattle.class_mapping.specs.Mapped.{Mapped}
use Rattle.class_mapping.specs.Declaring as declaring
use Rattle.script_types.specs.declared.command.Command.{Command}
use Rattle.base_core.specs.declared.dialect.Dialect.{Dialect}
use Rattle.shell_parts.specs.declared.block.Block.{Block}
use Rattle.shell_parts.specs.Bindings.{bind}
use Rattle.shell_parts.specs.Blocks.{declare}
use Rattle.keeper_core.specs.Programs.{Run, ◌>>=◌, ask}
use Rattle.keeper_core.specs.Beside.{Beside, on_own}
use Rattle.session_scopes.specs.SessionState.{SessionState, new_session}
use Rattle.session_perform.specs.Performing.{program_of_resolved}
use Rattle.command_resolve.specs.declared.answer.Answer.{Answer}
use Rattle.command_resolve.specs.declared.answer.Answer.TheVariants as answer
use Rattle.command_names.specs.Terms.{Bindings}
use Rattle.shell_replies.specs.Naming.{session_names, table_names}
use Rattle.shell_replies.specs.Notes.{notes_text}
use Rattle.shell_replies.specs.declared.notes.PrintOptions.{PrintOptions}
use Rattle.shell_stage.specs.declared.stage.Stage.{Stage}
use Rattle.shell_stage.specs.declared.stage.Stage.TheVariants.{Declaring, Configured}
use Rattle.shell_stage.specs.Asking.{asked}

-- ---- declarations

abbrev pub session_stage : Result Mapped Refusal → Result Stage Refusal
session_stage (Ok mapping) = Ok (Configured (new_session mapping))
session_stage (Err e) = Err e

-- all declarations are checked, and a session opens over them
unfoldable pub opened_stage : Stage → Result Stage Refusal
opened_stage (Declaring mapping) = session_stage (declaring.configure mapping)
opened_stage (Configured session) = Err (InvalidRequestError IsConfigured)

abbrev pub stage_over : Result (Unit {0} × Mapped) Refusal → Result Stage Refusal
stage_over (Ok p) = Ok (Declaring p.1)
stage_over (Err e) = Err e

-- what a block says is declared, where these are the rules of the validators
unfoldable pub declared_stage : Rules → Block → Stage → Result Stage Refusal
declared_stage rules block (Declaring mapping) = stage_over (declare rules block.declared mapping)
declared_stage rules block (Configured session) = Err (InvalidRequestError IsConfigured)

-- ---- commands

-- what the line asks for by these names and the session's mapping is performed
unfoldable pub performed : Rules → Dialect → Bindings → Command → Beside SessionState → Run (Beside SessionState) Answer
performed rules dialect names command = on_own (ask (λ session. asked dialect session.mapping names command)) >>= program_of_resolved rules

-- the names, where the answer is to be bound with one more
abbrev pub names_with : Answer → Bindings → Bindings
names_with (answer.Bind name thing) names = bind names name thing
names_with other names = names

-- ---- replies

-- the names of what refusals have by number
abbrev pub names_at : Stage → Names
names_at (Declaring mapping) = table_names mapping.schema
names_at (Configured session) = session_names session.mapping session.graph

-- what is told of what the session noted in the line of a number
abbrev pub notes_at : PrintOptions → ℕ → Stage → List ℕ
notes_at options line (Declaring mapping) = []
notes_at options line (Configured session) = notes_text options line session.mapping session.graph session.notes

-- the session has noted nothing
abbrev pub without_notes : Stage → Stage
without_notes (Declaring mapping) = Declaring mapping
without_notes (Configured session) = Configured (record session { notes = [] })
