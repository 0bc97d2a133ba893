use Rattle.std.proofs.Common.{take, codes}
use Rattle.std.specs.Fmt.{HasWritten, IsPlainFormatter}
use Rattle.printing.specs.Texts.{with_leading_separators, value_text}
use Rattle.printing.proofs.rows.write_led.Given as goal

abbrev pub invariant-loop-value : goal.invariant-loop-value
invariant-loop-value g l = IsPlainFormatter l.initial.f → HasWritten g.W.Write.write_str_gives l.initial.f (with_leading_separators (codes ", ") value_text (take l.value-index l.values)) l.f
