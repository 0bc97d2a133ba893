use Rattle.std.proofs.Common.{take, codes}
use Rattle.std.specs.Fmt.{HasWritten, IsPlainFormatter}
use Rattle.printing.specs.Texts.{with_leading_separators, row_name_text}
use Rattle.printing.proofs.objects.write_led_rows.Given as goal

abbrev pub invariant-loop-row : goal.invariant-loop-row
invariant-loop-row g l = IsPlainFormatter l.initial.f → HasWritten g.W.Write.write_str_gives l.initial.f (with_leading_separators (codes " -> ") (row_name_text (g.N.Naming.names l.names)) (take l.row-index l.rows)) l.f
