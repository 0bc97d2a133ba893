-- The rows that are left to write give the tables, and those that are in were noted.
use Rattle.std.proofs.Common.{◌≡◌, true, drop, is_some}
use Rattle.schema_core.specs.Tables.{rows_in}
use Rattle.table_log.specs.Marks.{IsNoted}
use Rattle.row_statements.specs.Held.{put_all}
use Rattle.table_store.proofs.bulk.put_all.Given as goal

abbrev pub invariant-loop-entry : goal.invariant-loop-entry
invariant-loop-entry l =
    (put_all l.store.seen.tables l.table (drop l.entry-index l.entries) ≡ put_all l.fn.store.seen.tables l.table l.entries) × (is_some (rows_in l.store.seen.tables l.table) ≡ true)
    × (l.store.seen.scopes ≡ l.fn.store.seen.scopes) × IsNoted l.entry-index l.fn.store l.store
