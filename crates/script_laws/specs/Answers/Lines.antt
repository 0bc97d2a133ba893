-- Lines that write all that the objects state, and what it is that they answer.
use Rattle.std.specs.Prelude.{◌≡◌, ◌<◌, ◌≤◌, ℕ, List, codes, [], length, None, Ok}
use Rattle.schema_core.specs.Tables.{Tables}
use Rattle.class_types.specs.Rules.{Rules}
use Rattle.keeper_core.specs.Beside.{Beside}
use Rattle.keeper_core.specs.Store.{Store}
use Rattle.savepoints.specs.Scopes.{scope_limit}
use Rattle.script_read.specs.Line.{line as read_as}
use Rattle.script_types.specs.declared.command.Command.{Command}
use Rattle.script_types.specs.declared.command.Command.TheVariants.{BeginNested, Commit, Flush}
use Rattle.script_types.specs.declared.command.Inside.TheVariants.{Top}
use Rattle.shell_lines.specs.Desk.{DeskState, next_line}
use Rattle.shell_parts.specs.Bindings.{bind}
use Rattle.shell_parts.specs.declared.names.Bound.TheVariants.{Saved}
use Rattle.shell_replies.specs.declared.notes.PrintOptions.{PrintOptions}
use Rattle.shell_stage.specs.declared.stage.Stage.{Stage}
use Rattle.shell_stage.specs.declared.stage.Stage.TheVariants.{Declaring, Configured}
use Rattle.shell_steps.specs.ShellState.{ShellState}
use Rattle.shell_steps.specs.Step.{line_step, notes_told, reply_to}
use Rattle.sqla_shell.specs.Reference.{do_and_reply}
use Rattle.session_laws.specs.Complete.{CanBeWritten}
use Rattle.script_laws.specs.Scripts.{after_lines}

-- ---- what is said, and of what session

-- no block is open where the script stands, and its next line is read as this command
pub record ReadsAs (desk : DeskState) (line : List ℕ) (command : Command) : Type 0 where
  pub outside : desk.block ≡ None
  pub read : read_as line (next_line desk).line Top ≡ Ok command

-- so are the words `flush` and `commit`
abbrev pub WordsAreRead : Type 0
WordsAreRead = (desk : DeskState) → desk.block ≡ None → ReadsAs desk (codes "flush") Flush × ReadsAs desk (codes "commit") (Commit None)

-- There is a session, and what its objects state can be written over its store, and leaves these tables: no rollback is awaited; what is to
-- be known of the objects that are to be deleted can be read; no row that is deleted holds a value in a column of a foreign key that
-- another class owns; there is no cycle, the new rows have keys, none of which is guessed by a foreign key, no unique value passes
-- between rows, and the tables that are stated are legal.
abbrev pub CanBeWrittenAt : Stage → Store → Tables → Type 0
CanBeWrittenAt (Declaring mapping) store after = ⊥
CanBeWrittenAt (Configured session) store after = CanBeWritten (record { own = session; store = store }) after

-- fewer than 64 savepoints are open in it
abbrev pub HasRoomAt : Stage → Type 0
HasRoomAt (Declaring mapping) = ⊥
HasRoomAt (Configured session) = length session.frames.scopes < scope_limit

-- ---- what the line does

-- The line is not refused, and has no words of its own: what goes out is what is told of what the session did. No command counts as
-- refused that did not count before, and the store has these tables.
pub record IsCarriedOut (rules : Rules) (shell : Beside ShellState) (line : List ℕ) (after : Tables) : Type 0 where
  pub answer : (line_step rules line shell).answer ≡ Ok []
  pub reply : (reply_to rules line shell).answer ≡ Ok (notes_told (line_step rules line shell).after.own)
  pub refused : (do_and_reply rules line tt shell).after.own.desk.refused ≡ shell.own.desk.refused
  pub tables : (do_and_reply rules line tt shell).after.store.tables ≡ after

-- of a shell: a line that is read as this command is carried out, where what the objects state can be written
abbrev pub CarriesOut : Command → Rules → Beside ShellState → Type 0
CarriesOut command rules shell = (line : List ℕ) (after : Tables) → ReadsAs shell.own.desk line command → CanBeWrittenAt shell.own.stage shell.store after → IsCarriedOut rules shell line after

-- so is a line that begins a savepoint, where fewer than 64 are open; from then on the name stands for it
abbrev pub BeginsSavepoints : Rules → Beside ShellState → Type 0
BeginsSavepoints rules shell =
    (line name : List ℕ) (after : Tables) → ReadsAs shell.own.desk line (BeginNested name) → CanBeWrittenAt shell.own.stage shell.store after → HasRoomAt shell.own.stage
    → IsCarriedOut rules shell line after × (handle : ℕ) × ((do_and_reply rules line tt shell).after.own.names ≡ bind shell.own.names name (Saved handle))

-- this holds of the shell behind whatever lines of a script
abbrev pub BehindLines : (Rules → Beside ShellState → Type 0) → Type 0
BehindLines Holds = (options : PrintOptions) (rules : Rules) (lines : List (List ℕ)) → length lines ≤ 4294967295 → Holds rules (after_lines options rules lines)
