use Rattle.std.proofs.Common.{◌≡◌, length}
use Rattle.shell_lines.specs.Lines.{is_end}
use Rattle.shell_lines.proofs.lines.is_end.Given as goal

-- the blanks that were taken count for nothing
abbrev pub invariant-loop-line : goal.invariant-loop-line
invariant-loop-line l = is_end l.line ≡ is_end l.initial.line

abbrev pub decreases-loop-line : goal.decreases-loop-line
decreases-loop-line l = length l.line
