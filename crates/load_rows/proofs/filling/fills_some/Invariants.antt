use Rattle.std.proofs.Common.{◌≡◌, drop}
use Rattle.std.specs.List.{enumerate_from, list_any}
use Rattle.load_rows.specs.Loading.{is_to_fill}
use Rattle.load_rows.proofs.filling.fills_some.Given as goal

abbrev pub invariant-loop-place : goal.invariant-loop-place
invariant-loop-place l = list_any (is_to_fill l.found) (enumerate_from l.place (drop l.place l.cells)) ≡ list_any (is_to_fill l.found) (enumerate_from 0 l.cells)
