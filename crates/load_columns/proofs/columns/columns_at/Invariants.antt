use Rattle.std.proofs.Common.{◌≡◌, map, take}
use Rattle.load_columns.specs.Placing.{column_at}
use Rattle.load_columns.proofs.columns.columns_at.Given as goal

abbrev pub invariant-loop-number : goal.invariant-loop-number
invariant-loop-number l = l.columns ≡ map (column_at l.source) (take l.number-index l.numbers)
