use Rattle.std.proofs.Common.{◌≡◌, drop}
use Rattle.std.specs.List.{list_all}
use Rattle.plain_statements.specs.Tested.{is_cell}
use Rattle.plain_statements.proofs.bulk.are_written.Given as goal

abbrev pub invariant-loop-cell : goal.invariant-loop-cell
invariant-loop-cell l = list_all (is_cell l.schema l.table l.around.names.items) (drop l.cell-index l.cells) ≡ list_all (is_cell l.schema l.table l.around.names.items) l.cells
