-- The tables came of these by the entries that were undone.
use Rattle.std.proofs.Common.{◌+◌, ◌≤◌, length, vec_len, vec_capacity}
use Rattle.table_log.specs.Undone.{ArePlaced, Follows}
use Rattle.table_rows.specs.Rows.{tables_present}
use Rattle.table_log.proofs.undoing.undo_from.Given as goal

abbrev pub invariant-back : goal.invariant-back
invariant-back l =
    Follows (tables_present l.tables) l.log.items (tables_present l.fn.tables) l.fn.log.items × (l.place ≤ length l.log.items) × ArePlaced l.tables l.log.items
    × (vec_len l.entries_undone + vec_len l.log ≤ vec_capacity l.entries_undone)

abbrev pub decreases-back : goal.decreases-back
decreases-back l = length l.log.items
