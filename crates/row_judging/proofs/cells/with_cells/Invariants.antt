use Rattle.std.proofs.Common.{◌≡◌, drop}
use Rattle.schema_core.specs.Apply.{with_cells}
use Rattle.row_judging.proofs.cells.with_cells.Given as goal

abbrev pub invariant-loop-column : goal.invariant-loop-column
invariant-loop-column l = with_cells l.cells.items (drop l.column-index l.written) ≡ with_cells l.fn.row l.written
