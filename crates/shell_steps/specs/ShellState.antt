-- What is seen of a shell between two lines, and how a keeper stands beside it.
use Rattle.std.specs.Prelude.{◌≡◌, false, [], Result, Ok, Err}
use Rattle.base_core.specs.declared.refusal.Refusal.{Refusal}
use Rattle.class_mapping.specs.Mapped.{Mapped}
use Rattle.keeper_core.specs.Programs.{ends_early}
use Rattle.keeper_core.specs.Moment.{Moment}
use Rattle.command_names.specs.Terms.{Bindings}
use Rattle.shell_lines.specs.Desk.{DeskState, new_desk}
use Rattle.shell_replies.specs.declared.notes.PrintOptions.{PrintOptions}
use Rattle.shell_stage.specs.declared.stage.Stage.{Stage}
use Rattle.shell_stage.specs.declared.stage.Stage.TheVariants.{Declaring}
use Rattle.shell_stage.specs.Stages.{IsReady}

-- a shell: how texts are printed, what is declared or the session, the names that are bound, and where the script stands
pub record ShellState : Type 0 where
  pub options : PrintOptions
  pub stage : Stage
  pub names : Bindings
  pub desk : DeskState

-- no declarations
abbrev pub new_mapping : Mapped
new_mapping = record { schema = record { tables = []; resolved = false }; classes = record { specs = []; lines = [] } }

-- a shell before the first line
abbrev pub new_shell : PrintOptions → ShellState
new_shell options = record { options = options; stage = Declaring new_mapping; names = []; desk = new_desk }

-- a line keeps it so, unless memory or the store ended it early
abbrev pub StaysReady : {A W : Type 0} → Result A Refusal → Stage → Moment W → Type 0
StaysReady (Ok x) stage moment = IsReady stage moment
StaysReady (Err e) stage moment = ends_early e ≡ false → IsReady stage moment
