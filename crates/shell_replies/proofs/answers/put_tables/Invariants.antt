use Rattle.std.proofs.Common.{◌≡◌, ◌++◌, take}
use Rattle.shell_replies.specs.Answers.{tables_text}
use Rattle.shell_replies.proofs.answers.put_tables.Given as goal

abbrev pub invariant-loop-table : goal.invariant-loop-table
invariant-loop-table l = l.reply ≡ l.fn.reply ++ tables_text l.schema (take l.table-index l.tables)
