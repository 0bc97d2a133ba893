use Rattle.std.proofs.Common.{◌≡◌, map, take}
use Rattle.load_columns.specs.Conditions.{first_value}
use Rattle.load_columns.proofs.conditions.first_values.Given as goal

abbrev pub invariant-loop-key : goal.invariant-loop-key
invariant-loop-key l = l.values ≡ map first_value (take l.key-index l.keys)
