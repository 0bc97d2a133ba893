use Rattle.std.proofs.Common.{◌≡◌, true, ◌+◌, ◌-◌, cond, length}
use Rattle.byte_streams.specs.Cutting.{IsKept, FitsSource, most_in_line}
use Rattle.byte_streams.proofs.lines.LineBuffer.next_line.Given as goal

abbrev pub invariant-loop-answer : goal.invariant-loop-answer
invariant-loop-answer g l = record {
  kept : IsKept l.fn.self (g.S.Source.left l.fn.source) l.self (g.S.Source.left l.source);
  fits : FitsSource l.self (g.S.Source.left l.source);
  ended : l.fn.self.ended ≡ true → l.self.ended ≡ true;
  faults : g.S.Source.faults l.source ≡ g.S.Source.faults l.fn.source;
}

-- each turn brings a byte, or finds the end
abbrev pub decreases-loop-answer : goal.decreases-loop-answer
decreases-loop-answer g l = (most_in_line + 1 - length l.self.bytes) + cond l.self.ended 0 1
