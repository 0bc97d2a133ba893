-- The reference run: what the bytes of a script do, line by line, and what goes out.
use Rattle.std.specs.Prelude.{ℕ, Bool, true, false, List, [], map, Ok}
use Rattle.class_types.specs.Rules.{Rules}
use Rattle.keeper_core.specs.Programs.{Run, Writes, ◌>>=◌, give, each}
use Rattle.keeper_core.specs.Beside.{Beside}
use Rattle.schema_core.specs.Tables.{Tables}
use Rattle.byte_streams.specs.Scripts.{lines_of}
use Rattle.shell_replies.specs.declared.notes.PrintOptions.{PrintOptions}
use Rattle.shell_steps.specs.ShellState.{ShellState, new_shell}
use Rattle.shell_steps.specs.Step.{reply_to, end_reply, close_session}
use Rattle.sqla_shell.specs.declared.ending.Ending.{Ending}
use Rattle.sqla_shell.specs.declared.ending.Ending.TheVariants.{Finished, TooLong}

-- ---- the run

-- bytes go out
unfoldable pub writes : {W : Type 0} → List ℕ → W → Run W (Unit {0})
writes bytes w = record { events = map Writes bytes; answer = Ok tt; after = w }

-- a line is done, and then its reply goes out
unfoldable pub do_and_reply : Rules → List ℕ → Unit {0} → Beside ShellState → Run (Beside ShellState) (Unit {0})
do_and_reply rules line u = reply_to rules line >>= writes

-- the session is closed, and then what is told of that goes out
unfoldable pub close_and_tell : Beside ShellState → Run (Beside ShellState) (Unit {0})
close_and_tell = close_session >>= writes

-- the script has ended: a block that is open is refused, and the session is closed
unfoldable pub end_script : Beside ShellState → Run (Beside ShellState) Ending
end_script = end_reply >>= λ reply. writes reply >>= λ u. close_and_tell >>= λ u. give Finished

abbrev pub end_unless_too_long : Bool → Beside ShellState → Run (Beside ShellState) Ending
end_unless_too_long true = give TooLong
end_unless_too_long false = end_script

-- each line of a script in order, and then its end
unfoldable pub script : Rules → List ℕ → Beside ShellState → Run (Beside ShellState) Ending
script rules bytes = each (do_and_reply rules) tt (lines_of bytes).lines >>= λ u. end_unless_too_long (lines_of bytes).too_long

-- nothing is declared, over tables that are there
abbrev pub start_over : PrintOptions → Tables → Beside ShellState
start_over options tables = record { own = new_shell options; store = record { tables = tables; scopes = [] } }

-- nothing is declared, and there is no table
abbrev pub start : PrintOptions → Beside ShellState
start options = start_over options []

-- what a script does over tables that are there, where texts are printed so and validators have these rules
abbrev pub reference_over : PrintOptions → Rules → Tables → List ℕ → Run (Beside ShellState) Ending
reference_over options rules tables bytes = script rules bytes (start_over options tables)

-- what a script does where there is no table
abbrev pub reference : PrintOptions → Rules → List ℕ → Run (Beside ShellState) Ending
reference options rules bytes = reference_over options rules [] bytes
