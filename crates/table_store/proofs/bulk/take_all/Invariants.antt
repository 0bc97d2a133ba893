-- The keys that are left give the tables, each row that was there is left or set aside, and those that are out were noted.
use Rattle.std.proofs.Common.{◌≡◌, true, drop, is_some}
use Rattle.schema_core.specs.Tables.{rows_in}
use Rattle.table_log.specs.Marks.{IsNoted}
use Rattle.table_rows.specs.Rows.{rows_at}
use Rattle.table_store.specs.Taken.{AreKeysOf, IsDivided, take_all}
use Rattle.table_store.proofs.bulk.take_all.Given as goal

abbrev pub invariant-loop-key : goal.invariant-loop-key
invariant-loop-key l =
    (take_all l.store.seen.tables l.table (drop l.key-index l.keys) ≡ take_all l.fn.store.seen.tables l.table l.keys) × (is_some (rows_in l.store.seen.tables l.table) ≡ true)
    × IsDivided (rows_at l.fn.store.seen.tables l.table) (rows_at l.store.seen.tables l.table) l.aside × (l.store.seen.scopes ≡ l.fn.store.seen.scopes)
    × IsNoted l.key-index l.fn.store l.store × AreKeysOf (rows_at l.store.seen.tables l.table) (drop l.key-index l.keys)
