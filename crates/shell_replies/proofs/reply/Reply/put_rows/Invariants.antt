use Rattle.std.proofs.Common.{◌≡◌, ◌++◌, take}
use Rattle.std.specs.List.{flat_map}
use Rattle.shell_replies.specs.Replies.{row_line}
use Rattle.shell_replies.proofs.reply.Reply.put_rows.Given as goal

abbrev pub invariant-loop-row : goal.invariant-loop-row
invariant-loop-row l = l.self ≡ l.initial.self ++ flat_map row_line (take l.row-index l.rows)
