use Rattle.std.proofs.Common.{◌≡◌, drop}
use Rattle.std.specs.List.{flat_map}
use Rattle.statement_kinds.specs.Mismatches.{cell_mismatch}
use Rattle.statement_kinds.proofs.kinds.judge_cells.Given as goal

abbrev pub invariant-loop-cell : goal.invariant-loop-cell
invariant-loop-cell l = flat_map (cell_mismatch l.schema l.table) (drop l.cell-index l.cells) ≡ flat_map (cell_mismatch l.schema l.table) l.cells
