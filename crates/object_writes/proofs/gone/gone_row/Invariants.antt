use Rattle.std.proofs.Common.{◌≡◌, ◌++◌, map, drop}
use Rattle.std.specs.List.{enumerate_from}
use Rattle.object_arena.specs.Graph.{object_at}
use Rattle.object_rows.specs.Rows.{gone_cell}
use Rattle.object_writes.proofs.gone.gone_row.Given as goal

abbrev pub invariant-loop-number : goal.invariant-loop-number
invariant-loop-number l =
    l.base ++ map (gone_cell l.mapping (object_at l.arena l.object) l.table) (enumerate_from l.number (drop l.number l.columns))
    ≡ map (gone_cell l.mapping (object_at l.arena l.object) l.table) (enumerate_from 0 l.columns)
