use Rattle.std.proofs.Common.{◌≡◌, false, take}
use Rattle.std.specs.List.{list_any}
use Rattle.session_statements.specs.Steps.{is_told_by}
use Rattle.session_statements.proofs.asking.tells_apart.Given as goal

abbrev pub invariant-loop-number : goal.invariant-loop-number
invariant-loop-number l = list_any (is_told_by l.table l.column) (take l.number l.mapping.classes.specs) ≡ false
