-- How a run ends where nothing failed.
use Rattle.std.specs.Prelude.{◌≡◌, ◌⊎◌, ℕ, Bool, true, false, not, ◌&&◌, List, [], ◌∷◌, Some, is_none, is_ok}
use Rattle.base_core.specs.Counts.{Rose}
use Rattle.class_types.specs.Rules.{Rules}
use Rattle.keeper_core.specs.Beside.{Beside}
use Rattle.keeper_core.specs.Moment.{Told}
use Rattle.keeper_core.specs.Store.{Store}
use Rattle.byte_streams.specs.Scripts.{lines_of}
use Rattle.shell_replies.specs.declared.notes.PrintOptions.{PrintOptions}
use Rattle.shell_steps.specs.ShellState.{ShellState}
use Rattle.shell_steps.specs.Step.{line_step}
use Rattle.sqla_shell.specs.Causes.{Faults, done_status}
use Rattle.sqla_shell.specs.declared.status.Status.{Status}
use Rattle.sqla_shell.specs.declared.status.Status.TheVariants as status
use Rattle.sqla_shell.specs.Reference.{do_and_reply, start}
use Rattle.sqla_shell.specs.Seen.{Seen, faults_of}
use Rattle.script_laws.specs.Scripts.{after_lines}

-- no count of faults rose
pub record IsFaultless (old new : Faults) : Type 0 where
  pub source : Rose old.source new.source → ⊥
  pub sink : Rose old.sink new.sink → ⊥
  pub keeper : Rose old.keeper new.keeper → ⊥

-- the next line of a shell is answered, and not refused
abbrev pub is_answered : Rules → List ℕ → Beside ShellState → Bool
is_answered rules line shell = is_ok (line_step rules line shell).answer

-- so are lines, one after another
abbrev pub are_answered : Rules → List (List ℕ) → Beside ShellState → Bool
are_answered rules [] shell = true
are_answered rules (line ∷ lines) shell = is_answered rules line shell && are_answered rules lines (do_and_reply rules line tt shell).after

-- so are all lines of a script, and no block is open behind them
abbrev pub is_script_answered : PrintOptions → Rules → List (List ℕ) → Bool
is_script_answered options rules lines = are_answered rules lines (start options) && is_none (after_lines options rules lines).own.desk.block

-- Where the source told the script, which passes no limit, the sink tells what is written and the keeper its tables, and nothing failed:
-- the run is done where each line of the script is answered and no block is open at its end, and refused where that is not so; or memory
-- ran out.
abbrev pub EndsAsItsLinesAnswer : PrintOptions → Rules → Seen → Status → Seen → Type 0
EndsAsItsLinesAnswer options rules old end new =
    (bytes written : List ℕ) (told : Told Store) → old.left ≡ Some bytes → old.written ≡ Some written → new.keeper.told ≡ Some told → (lines_of bytes).too_long ≡ false → IsFaultless (faults_of old) (faults_of new)
    → (end ≡ status.Memory) ⊎ (end ≡ done_status (not (is_script_answered options rules (lines_of bytes).lines)))
