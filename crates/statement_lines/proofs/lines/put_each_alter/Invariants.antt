use Rattle.std.proofs.Common.{◌≡◌, ◌++◌, take, string_bytes}
use Rattle.std.specs.List.{flat_map}
use Rattle.statement_lines.specs.Echo.{alter_line}
use Rattle.statement_lines.proofs.lines.put_each_alter.Given as goal

abbrev pub invariant-loop-number : goal.invariant-loop-number
invariant-loop-number l = string_bytes l.text ≡ string_bytes l.initial.text ++ flat_map (alter_line l.dialect l.schema l.table) (take l.number-index l.numbers)
