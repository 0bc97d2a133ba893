-- Why a line is not read.
use Rattle.std.proofs.Common.{◌≡◌, ◌≢◌, ℕ, Result, Err, ap}
use Rattle.base_core.specs.Answers.{Refuses}
use Rattle.base_core.specs.declared.refusal.Refusal.{Refusal}
use Rattle.script_types.specs.declared.command.Command.{Command}
use Rattle.script_tokens.specs.declared.fault.Fault.{Fault}
use Rattle.script_tokens.specs.declared.fault.Fault.TheVariants as fault
use Rattle.script_tokens.specs.Input.{Input, Outcome, Reads}
use Rattle.script_read.specs.Line.{IsOfReading, answer_of, refusal_of}

-- the fault is that of the line, or memory ran out
pub fault_told : (number : ℕ) (out : Outcome Command) (e : Fault) (rest : Input) → Reads out (Err e) rest → Refuses (refusal_of number e) (answer_of number out)
fault_told number out fault.Memory rest read = tt
fault_told number out (fault.At at) rest read = ap (answer_of number) (read (λ same. cc))

pub of_reading : (number : ℕ) (e : Fault) → IsOfReading (refusal_of number e)
of_reading number fault.Memory = tt
of_reading number (fault.At at) = tt

pub ruleset faults = (fault_told, of_reading)
