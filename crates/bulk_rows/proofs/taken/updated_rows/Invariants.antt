use Rattle.std.proofs.Common.{◌≡◌, [], length}
use Rattle.table_rows.specs.Lent.{seen}
use Rattle.table_rows.specs.Walks.{entries_left}
use Rattle.sql_semantics.specs.Taken as spec
use Rattle.bulk_rows.proofs.taken.updated_rows.Given as goal

abbrev pub invariant-loop-key : goal.invariant-loop-key
invariant-loop-key l = spec.updated_from (seen l.tables) l.written l.filter l.done.items (entries_left l.left) ≡ spec.updated_from (seen l.tables) l.written l.filter [] (entries_left l.fn.rows)

abbrev pub decreases-loop-key : goal.decreases-loop-key
decreases-loop-key l = length (entries_left l.left)
