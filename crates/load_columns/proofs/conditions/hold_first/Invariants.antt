use Rattle.std.proofs.Common.{◌≡◌, map, take}
use Rattle.load_columns.specs.Conditions.{holds_first}
use Rattle.load_columns.proofs.conditions.hold_first.Given as goal

abbrev pub invariant-loop-column : goal.invariant-loop-column
invariant-loop-column l = l.out ≡ map (holds_first l.keys) (take l.column-index l.columns)
