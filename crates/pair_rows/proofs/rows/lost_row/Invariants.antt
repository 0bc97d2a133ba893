use Rattle.std.proofs.Common.{◌≡◌, [], map, take}
use Rattle.schema_core.specs.Tables.{given_value}
use Rattle.pair_rows.specs.Pairs.{pair_cell}
use Rattle.pair_rows.proofs.rows.lost_row.Given as goal

abbrev pub invariant-loop-column : goal.invariant-loop-column
invariant-loop-column l = l.base ≡ map (λ column. given_value (pair_cell l.projection.mapping.now l.projection.arena.now [] l.pair column)) (take l.column-index l.column-items)
