use Rattle.std.proofs.Common.{take, codes, ◌-◌, length}
use Rattle.std.specs.List.{zip}
use Rattle.std.specs.Fmt.{HasWritten, IsPlainFormatter}
use Rattle.printing.specs.Texts.{with_leading_separators}
use Rattle.statement_lines.specs.StatementLines.{named_value}
use Rattle.statement_lines.proofs.text.write_led.Given as goal

abbrev pub invariant-loop-place : goal.invariant-loop-place
invariant-loop-place g l = IsPlainFormatter l.initial.f → HasWritten g.W.Write.write_str_gives l.initial.f (with_leading_separators (codes ", ") named_value (take l.place (zip l.names l.values))) l.f

abbrev pub decreases-loop-place : goal.decreases-loop-place
decreases-loop-place g l = length l.values - l.place
