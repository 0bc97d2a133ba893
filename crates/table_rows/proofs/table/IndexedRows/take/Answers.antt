-- The rows that are left are entered still.
use Rattle.table_rows.specs.Rows.{rows_present}
use Rattle.table_rows.proofs.IndexSteps.{take_kept}
use Rattle.table_rows.proofs.table.IndexedRows.take.Goals as goal

pub invariant_of-self : goal.invariant_of-self
invariant_of-self c = take_kept c.self.inside.indexes (rows_present c.self.inside.rows) (rows_present c.take.new.self) c.args.key.now c.take.ensures.sorted c.take.ensures.rows c.self.invariant
