use Rattle.std.proofs.Common.{◌≡◌, ◌++◌, take}
use Rattle.std.specs.List.{flat_map}
use Rattle.shell_replies.specs.Replies.{answer_line}
use Rattle.shell_replies.proofs.reply.Reply.put_each.Given as goal

abbrev pub invariant-loop-row : goal.invariant-loop-row
invariant-loop-row l = l.self ≡ l.initial.self ++ flat_map answer_line (take l.row-index l.rows)
