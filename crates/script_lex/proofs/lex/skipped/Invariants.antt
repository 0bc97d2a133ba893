use Rattle.std.proofs.Common.{◌≡◌, length}
use Rattle.script_lex.specs.Lex.{is_ignored}
use Rattle.script_lex.proofs.lex.skipped.Given as goal

abbrev pub invariant-loop-line : goal.invariant-loop-line
invariant-loop-line l = is_ignored l.line ≡ is_ignored l.initial.line

abbrev pub decreases-loop-line : goal.decreases-loop-line
decreases-loop-line l = length l.line
