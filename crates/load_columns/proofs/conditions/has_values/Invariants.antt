use Rattle.std.proofs.Common.{◌≡◌, ◌++◌, map, drop}
use Rattle.std.specs.List.{zip}
use Rattle.load_columns.specs.Conditions.{has_value}
use Rattle.load_columns.proofs.conditions.has_values.Given as goal

abbrev pub invariant-loop-place : goal.invariant-loop-place
invariant-loop-place l =
    l.out ++ map (λ pair. has_value pair.0 pair.1) (zip (drop l.place l.columns) (drop l.place l.values))
    ≡ map (λ pair. has_value pair.0 pair.1) (zip l.columns l.values)
