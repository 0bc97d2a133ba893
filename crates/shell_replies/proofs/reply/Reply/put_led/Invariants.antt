use Rattle.std.proofs.Common.{◌≡◌, ◌++◌, take, codes}
use Rattle.printing.specs.Texts.{with_leading_separators}
use Rattle.shell_replies.proofs.reply.Reply.put_led.Given as goal

abbrev pub invariant-loop-column : goal.invariant-loop-column
invariant-loop-column l = l.self ≡ l.initial.self ++ with_leading_separators (codes ", ") (λ column. column.name) (take l.column-index l.columns)
