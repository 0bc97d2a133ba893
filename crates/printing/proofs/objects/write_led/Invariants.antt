use Rattle.std.proofs.Common.{take, codes}
use Rattle.std.specs.Fmt.{HasWritten, IsPlainFormatter}
use Rattle.printing.specs.Texts.{with_leading_separators, object_text}
use Rattle.printing.proofs.objects.write_led.Given as goal

abbrev pub invariant-loop-object : goal.invariant-loop-object
invariant-loop-object g l = IsPlainFormatter l.initial.f → HasWritten g.W.Write.write_str_gives l.initial.f (with_leading_separators (codes ", ") (object_text (g.N.Naming.names l.names)) (take l.object-index l.objects)) l.f
