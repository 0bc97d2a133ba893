use Rattle.std.proofs.Common.{◌≡◌, [], ◌++◌, map, drop}
use Rattle.statement_names.specs.BulkNames.{cells_faults, named_cell}
use Rattle.statement_names.proofs.bulk.cells_named.Given as goal

abbrev pub invariant-loop-cell : goal.invariant-loop-cell
invariant-loop-cell l = record {
  said : l.named ++ map (named_cell l.schema l.table l.scope) (drop l.cell-index l.cells) ≡ map (named_cell l.schema l.table l.scope) l.cells;
  rest : cells_faults l.schema l.table l.scope l.before.items (drop l.cell-index l.cells) ≡ cells_faults l.schema l.table l.scope [] l.cells;
}
