use Rattle.std.proofs.Common.{◌≡◌, map, take}
use Rattle.schema_core.specs.Tables.{cell_of}
use Rattle.row_judging.proofs.cells.cells_of.Given as goal

abbrev pub invariant-loop-name : goal.invariant-loop-name
invariant-loop-name l = l.cells.items ≡ map (cell_of l.columns l.row) (take l.name-index l.names)
