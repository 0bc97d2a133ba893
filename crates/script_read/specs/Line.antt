-- Lines.
use Rattle.std.specs.Prelude.{◌≡◌, ◌≢◌, ℕ, ◌+◌, ◌-◌, ◌^◌, min, Bool, true, false, if◌then◌else◌, List, [], ◌∷◌, Option, Some, None, Result, Ok, Err}
use Rattle.base_core.specs.declared.refusal.Refusal.{Refusal}
use Rattle.base_core.specs.declared.refusal.Refusal.TheVariants.{Memory, ScriptError}
use Rattle.script_types.specs.declared.command.Command.{Command}
use Rattle.script_types.specs.declared.command.Command.TheVariants.{Skip}
use Rattle.script_types.specs.declared.command.Inside.{Inside}
use Rattle.script_types.specs.declared.command.Inside.TheVariants.{Top, Table, Class}
use Rattle.script_lex.specs.declared.kind.Kind.TheVariants as k
use Rattle.script_lex.specs.declared.token.Token.{Token}
use Rattle.script_lex.specs.Lex.{same_kind, is_ignored, tokens}
use Rattle.script_tokens.specs.declared.fault.Fault.{Fault}
use Rattle.script_tokens.specs.declared.fault.Fault.TheVariants as fault
use Rattle.script_tokens.specs.Input.{Outcome, Reader, ◌>>=◌, ◌>>◌, pure, refuse, sees, second_kind, start_of}
use Rattle.script_blocks.specs.Blocks.{table_line}
use Rattle.script_blocks.specs.Classes.{class_line}
use Rattle.script_read.specs.Bindings.{binding}
use Rattle.script_read.specs.Top.{top}

-- a line outside every block, which is a binding where its second token is `=`
unfoldable pub outer : Reader Command
outer = λ i. if same_kind (second_kind i) k.Assign then binding i else top i

abbrev pub command_by : Inside → Reader Command
command_by Top = outer
command_by Table = table_line
command_by Class = class_line

-- the line ends
unfoldable pub ends : Command → Reader Command
ends command = λ i. if sees k.LineEnd i then Ok (command, i) else refuse i

-- a command, and the end of the line
unfoldable pub line_of : Inside → Reader Command
line_of inside = command_by inside >>= ends

-- the column of a place in a line
abbrev pub column : ℕ → ℕ
column at = min (at + 1) (2 ^ 32 - 1)

abbrev pub refusal_of : ℕ → Fault → Refusal
refusal_of number fault.Memory = Memory
refusal_of number (fault.At at) = ScriptError number (column at)

abbrev pub answer_of : ℕ → Outcome Command → Result Command Refusal
answer_of number (Ok p) = Ok p.0
answer_of number (Err e) = Err (refusal_of number e)

-- what a line of this number and place says, or where no line of the forms goes on
unfoldable pub line : List ℕ → ℕ → Inside → Result Command Refusal
line bytes number inside = if is_ignored bytes then Ok Skip else answer_of number (line_of inside (start_of (tokens bytes)))

-- a fault of the script, or memory ran out
abbrev pub IsOfReading : Refusal → Type 0
IsOfReading Memory = Unit {0}
IsOfReading (ScriptError number column) = Unit {0}
IsOfReading e = ⊥
