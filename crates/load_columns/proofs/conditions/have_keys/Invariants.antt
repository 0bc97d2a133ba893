use Rattle.std.proofs.Common.{◌≡◌, ◌++◌, drop}
use Rattle.std.specs.List.{flat_map}
use Rattle.load_columns.specs.Conditions.{has_values}
use Rattle.load_columns.proofs.conditions.have_keys.Given as goal

abbrev pub invariant-loop-key : goal.invariant-loop-key
invariant-loop-key l =
    l.out ++ flat_map (has_values l.columns) (drop l.key-index l.keys)
    ≡ flat_map (has_values l.columns) l.keys
