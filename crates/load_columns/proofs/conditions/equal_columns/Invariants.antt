use Rattle.std.proofs.Common.{◌≡◌, ◌++◌, map, drop}
use Rattle.std.specs.List.{zip}
use Rattle.load_columns.specs.Conditions.{equal_column}
use Rattle.load_columns.proofs.conditions.equal_columns.Given as goal

abbrev pub invariant-loop-place : goal.invariant-loop-place
invariant-loop-place l =
    l.out ++ map (λ pair. equal_column pair.0 pair.1) (zip (drop l.place l.columns) (drop l.place l.others))
    ≡ map (λ pair. equal_column pair.0 pair.1) (zip l.columns l.others)
