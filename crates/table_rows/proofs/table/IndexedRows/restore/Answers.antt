-- Where no row comes back, those that are left are entered still; one that comes back had been entered, or there are no indexes.
use Rattle.schema_core.specs.Tables.{row_under}
use Rattle.table_rows.specs.Rows.{rows_present}
use Rattle.table_rows.proofs.IndexSteps.{put_changed, take_kept}
use Rattle.table_rows.proofs.table.IndexedRows.restore.Goals as goal

pub invariant_of-self : goal.invariant_of-self
invariant_of-self c =
    take_kept c.self.inside.indexes (rows_present c.self.inside.rows) (rows_present c.restore.new.self) c.args.key.now c.are_sorted.ensures c.restore.ensures.rows c.self.invariant

pub invariant_of-self-2 : goal.invariant_of-self-2
invariant_of-self-2 c =
    c.bring_back.ensures (row_under (rows_present c.self.inside.rows)) (row_under (rows_present c.restore-2.new.self)) c.self.invariant
    (put_changed (rows_present c.self.inside.rows) (rows_present c.restore-2.new.self) c.args.key.now c.in-Some.row c.restore-2.ensures.rows)
