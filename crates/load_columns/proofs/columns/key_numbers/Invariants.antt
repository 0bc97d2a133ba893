use Rattle.std.proofs.Common.{◌≡◌, ◌++◌, map, drop}
use Rattle.std.specs.List.{enumerate_from, filter}
use Rattle.load_columns.specs.Placing.{number_at}
use Rattle.load_columns.proofs.columns.key_numbers.Given as goal

abbrev pub invariant-loop-place : goal.invariant-loop-place
invariant-loop-place l =
    l.numbers ++ map number_at (filter (λ placed. placed.1.key) (enumerate_from l.place (drop l.place l.columns)))
    ≡ map number_at (filter (λ placed. placed.1.key) (enumerate_from 0 l.columns))
