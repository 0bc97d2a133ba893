-- What lines leave that flush, where they are not refused.
use Rattle.std.specs.Prelude.{◌≡◌, ℕ, List, Ok}
use Rattle.schema_core.specs.Tables.{Tables}
use Rattle.class_types.specs.Rules.{Rules}
use Rattle.keeper_core.specs.Beside.{Beside}
use Rattle.keeper_core.specs.Store.{Store}
use Rattle.script_types.specs.declared.command.Command.{Command}
use Rattle.shell_stage.specs.declared.stage.Stage.{Stage}
use Rattle.shell_stage.specs.declared.stage.Stage.TheVariants.{Declaring, Configured}
use Rattle.shell_steps.specs.ShellState.{ShellState}
use Rattle.shell_steps.specs.Step.{line_step}
use Rattle.sqla_shell.specs.Reference.{do_and_reply}
use Rattle.session_laws.specs.Complete.{ObjectsState, graph_read}
use Rattle.script_laws.specs.Answers.Lines.{ReadsAs}

-- the tables are what the objects of the session state, where there is one, once all is read that is to be known of those that are to be
-- deleted
abbrev pub IsStatedAt : Stage → Store → Tables → Type 0
IsStatedAt (Declaring mapping) store after = Unit {0}
IsStatedAt (Configured session) store after = ObjectsState session.mapping (graph_read (record { own = session; store = store })) store.tables after

-- of a shell: a line that is read as this command, and is not refused, leaves the rows that the objects stated before it, and no others
abbrev pub LeavesWhatIsStated : Command → Rules → Beside ShellState → Type 0
LeavesWhatIsStated command rules shell =
    (line text : List ℕ) → ReadsAs shell.own.desk line command → (line_step rules line shell).answer ≡ Ok text → IsStatedAt shell.own.stage shell.store (do_and_reply rules line tt shell).after.store.tables
