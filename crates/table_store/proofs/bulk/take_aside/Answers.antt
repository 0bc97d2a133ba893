-- The row that was set aside is out.
use Rattle.schema_core.specs.Tables.{without_row}
use Rattle.table_rows.specs.Rows.{rows_at}
use Rattle.table_rows.proofs.Laws.{on_ok}
use Rattle.table_store.proofs.BulkSteps.{divided_at, rows_without}
use Rattle.table_store.proofs.bulk.take_aside.Goals as goal

pub returns-clause-aside : goal.returns-clause-aside
returns-clause-aside c =
    on_ok c.take.result
    (λ is rows divided. divided_at rows (without_row (rows_at c.args.store.now.seen.tables c.args.table) c.args.key.now) (rows_at c.take.new.self.seen.tables c.args.table) c.set_aside.new.aside
    (rows_without c.args.store.now.seen c.take.new.self.seen c.args.table c.args.key.now is) (c.in_ok-set_aside.ensures rows divided)) c.take.ensures.ok
