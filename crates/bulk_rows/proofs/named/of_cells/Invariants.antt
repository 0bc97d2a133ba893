use Rattle.std.proofs.Common.{◌≡◌, ◌++◌, drop, map}
use Rattle.sql_semantics.specs.Rows.{flat, named_where}
use Rattle.bulk_rows.proofs.named.of_cells.Given as goal

abbrev pub invariant-loop-cell : goal.invariant-loop-cell
invariant-loop-cell l = l.found.items ++ flat (map (λ cell. named_where cell.1) (drop l.cell-index l.cells)) ≡ l.initial.found.items ++ flat (map (λ cell. named_where cell.1) l.cells)
