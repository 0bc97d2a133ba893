-- Each row is entered in the index that was found.
use Rattle.std.proofs.Common.{IfSome, subst}
use Rattle.schema_core.specs.Tables.{row_under}
use Rattle.table_index.specs.Indexed.{IsComplete}
use Rattle.table_rows.specs.Rows.{Places, rows_present}
use Rattle.table_rows.proofs.table.IndexedRows.index_on.Goals as goal

pub returns-clause-complete : goal.returns-clause-complete
returns-clause-complete c =
    subst (λ (places : Places). IfSome c.find.result (λ index. IsComplete (row_under (rows_present places)) index.now)) c.self.view_is (c.find.ensures.complete (row_under (rows_present c.self.inside.rows)) c.self.invariant)
