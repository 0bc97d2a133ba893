-- One index more has the row, or lacks it.
use Rattle.table_index.proofs.Entered.{also_entered, not_entered}
use Rattle.table_index.proofs.indexes.Indexes.has_entered.Goals as goal

pub returns-then-not-branch : goal.returns-then-not-branch
returns-then-not-branch c =
    not_entered c.args.self.now.list.items c.deref-index-items.result.now c.args.key.now c.args.row.now c.as_slice.result.now c.loop-index.index-index c.index-item.result c.in_ok-has_row.field-0 c.deref-index-items.ensures.value c.loop-index-test.true c.index-item.is c.as_slice.ensures
    c.in_ok-has_row.ensures c.if-not-branch.true

pub loop-index-preserved : goal.loop-index-preserved
loop-index-preserved c =
    also_entered c.args.self.now.list.items c.deref-index-items.result.now c.args.key.now c.args.row.now c.as_slice.result.now c.loop-index.index-index c.index-item.result c.in_ok-has_row.field-0 c.deref-index-items.ensures.value c.loop-index-test.true c.index-item.is c.as_slice.ensures
    c.in_ok-has_row.ensures c.if-not-branch.false c.loop-index.invariant
