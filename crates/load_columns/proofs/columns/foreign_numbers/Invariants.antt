use Rattle.std.proofs.Common.{◌≡◌, map, take}
use Rattle.load_columns.specs.Placing.{column_named}
use Rattle.load_columns.proofs.columns.foreign_numbers.Given as goal

abbrev pub invariant-loop-name : goal.invariant-loop-name
invariant-loop-name l = l.numbers ≡ map (column_named l.mapping l.key.0) (take l.name-index l.names)
