-- The row of a key, if there is one, is set aside.
use Rattle.std.proofs.Common.{◌≡◌, None, Some}
use Rattle.schema_core.specs.Tables.{row_under, with_row}
use Rattle.table_rows.specs.Rows.{rows_at, rows_present}
use Rattle.table_store.proofs.BulkSteps.{none_aside, one_aside}
use Rattle.table_store.proofs.bulk.set_aside.Goals as goal

pub returns-in_default : goal.returns-in_default
returns-in_default c rows divided =
    let none : row_under (rows_at c.args.store.now.seen.tables c.args.table) c.args.key.now ≡ None = cc (c.in_ok-row.ensures, c.in_default.is) in
    none_aside rows (rows_at c.args.store.now.seen.tables c.args.table) c.args.aside.now c.args.key.now none divided

pub returns : goal.returns
returns c rows divided =
    let found : row_under (rows_at c.args.store.now.seen.tables c.args.table) c.args.key.now ≡ Some c.in-Some.row = cc (c.in_ok-row.ensures, c.in-Some.is) in
    let is : rows_present c.put.new.self ≡ with_row (rows_present c.args.aside.now) c.args.key.now c.in-Some.row = cc (c.in_ok-put.ensures.ok, c.in_ok-copied.ensures) in
    one_aside rows (rows_at c.args.store.now.seen.tables c.args.table) c.args.aside.now c.put.new.self c.args.key.now c.in-Some.row found is divided
