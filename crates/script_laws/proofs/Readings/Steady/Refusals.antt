-- What follows a refused token changes nothing.
use Rattle.std.specs.Prelude.{◌≡◌, ℕ, suc, List, take, drop, Err}
use Rattle.script_types.specs.declared.command.Command.{Command}
use Rattle.script_lex.specs.declared.token.Token.{Token}
use Rattle.script_tokens.specs.declared.fault.Fault.{Fault}
use Rattle.script_tokens.specs.declared.fault.Fault.TheVariants.{At}
use Rattle.script_tokens.specs.Input.{Reader, ◌>>=◌, first_of, start_of}
use Rattle.script_blocks.specs.Blocks.{table_line}
use Rattle.script_blocks.specs.Classes.{class_line}
use Rattle.script_read.specs.Bindings.{binding}
use Rattle.script_read.specs.Top.{top}
use Rattle.script_read.specs.Line.{ends}
use Rattle.script_laws.proofs.Readings.Steady.Settling.{Leaves}

-- where the token after the first k begins
abbrev pub place : ℕ → List Token → ℕ
place k tokens = (first_of (drop k tokens)).at

-- Where a reader is refused, some k tokens stand before the refused one, which is one of them if they are those of a line, and it is refused there
-- whatever other tokens follow: so no tokens that begin with the first k and the refused one are read.
abbrev pub IsRefusedForGood : Reader Command → Type 0
IsRefusedForGood p = (tokens : List Token) (e : Fault) → p (start_of tokens) ≡ Err e
    → (k : ℕ) × (Leaves k tokens × ((e ≡ At (place k tokens))
    × ((other : List Token) → take (suc k) tokens ≡ take (suc k) other → p (start_of other) ≡ Err (At (place k other)))))

abbrev pub whole_binding : Reader Command
whole_binding = binding >>= ends

abbrev pub whole_top : Reader Command
whole_top = top >>= ends

abbrev pub whole_table_line : Reader Command
whole_table_line = table_line >>= ends

abbrev pub whole_class_line : Reader Command
whole_class_line = class_line >>= ends
