use Rattle.std.proofs.Common.{◌≡◌, map, take}
use Rattle.pair_rows.specs.Pairs.{pair_cell}
use Rattle.pair_rows.proofs.rows.made_row.Given as goal

abbrev pub invariant-loop-column : goal.invariant-loop-column
invariant-loop-column l = l.cells ≡ map (pair_cell l.projection.mapping.now l.projection.arena.now l.projection.names.now l.pair) (take l.column-index l.column-items)
