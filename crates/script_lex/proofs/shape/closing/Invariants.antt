use Rattle.std.proofs.Common.{◌≡◌, ◌+◌, length, false}
use Rattle.script_lex.specs.Shape.{quote_end}
use Rattle.script_lex.proofs.shape.closing.Given as goal

abbrev pub invariant-loop-z : goal.invariant-loop-z
invariant-loop-z l = (quote_end l.quote l.is_second l.at l.z ≡ quote_end l.quote false 1 l.initial.z) × (l.at + length l.z ≡ length l.initial.z + 1)

abbrev pub decreases-loop-z : goal.decreases-loop-z
decreases-loop-z l = length l.z
