use Rattle.std.proofs.Common.{◌≡◌, ◌++◌, map, drop}
use Rattle.expr_types.specs.NormalSelect.{normal_where}
use Rattle.statement_kinds.proofs.normal.cell_forms.Given as goal

abbrev pub invariant-loop-cell : goal.invariant-loop-cell
invariant-loop-cell l = l.out.items ++ map (λ cell. (cell.0, normal_where cell.1)) (drop l.cell-index l.cell-items) ≡ map (λ cell. (cell.0, normal_where cell.1)) l.cells
