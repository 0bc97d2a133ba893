use Rattle.std.proofs.Common.{◌≡◌, ◌++◌, take, codes}
use Rattle.printing.specs.Texts.{with_leading_separators}
use Rattle.shell_replies.specs.Answers.{member_text}
use Rattle.shell_replies.proofs.answers.put_led.Given as goal

abbrev pub invariant-loop-member : goal.invariant-loop-member
invariant-loop-member l = l.reply ≡ l.fn.reply ++ with_leading_separators (codes ", ") (member_text l.mapping) (take l.member-index l.members)
