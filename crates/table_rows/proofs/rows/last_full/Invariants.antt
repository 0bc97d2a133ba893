-- The places that are left have the last row.
use Rattle.std.proofs.Common.{◌≡◌, length}
use Rattle.table_rows.specs.Rows.{last_key, rows_present}
use Rattle.table_rows.proofs.rows.last_full.Given as goal

abbrev pub invariant-loop-key : goal.invariant-loop-key
invariant-loop-key l = last_key (rows_present l.places) ≡ last_key (rows_present l.fn.range)

abbrev pub decreases-loop-key : goal.decreases-loop-key
decreases-loop-key l = length l.places
