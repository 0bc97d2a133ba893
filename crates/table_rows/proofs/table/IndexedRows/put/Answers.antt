-- Each index has the row that was put in, or there are none.
use Rattle.schema_core.specs.Tables.{row_under}
use Rattle.table_rows.specs.Rows.{rows_present}
use Rattle.table_rows.proofs.IndexSteps.{put_changed}
use Rattle.table_rows.proofs.table.IndexedRows.put.Goals as goal

pub invariant_of-self : goal.invariant_of-self
invariant_of-self c =
    c.put.ensures (row_under (rows_present c.self.inside.rows)) (row_under (rows_present c.put-2.new.self)) c.self.invariant
    (put_changed (rows_present c.self.inside.rows) (rows_present c.put-2.new.self) c.args.key c.args.row c.in-Ok.ensures.ok)

pub invariant_of-self-in-Err : goal.invariant_of-self-in-Err
invariant_of-self-in-Err c = c.clear.ensures (row_under (rows_present c.put-2.new.self))
