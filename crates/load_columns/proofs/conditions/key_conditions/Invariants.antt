use Rattle.std.proofs.Common.{◌≡◌, map, take}
use Rattle.load_columns.specs.Conditions.{has_key}
use Rattle.load_columns.proofs.conditions.key_conditions.Given as goal

abbrev pub invariant-loop-key : goal.invariant-loop-key
invariant-loop-key l = l.out ≡ map (has_key l.columns) (take l.key-index l.keys)
