use Rattle.std.proofs.Common.{◌≡◌, ap}
use Rattle.flush_order.specs.Index.{new_place}
use Rattle.flush_order.specs.declared.refers.ReadyRow.{ReadyRow}
use Rattle.flush_order.proofs.IndexSteps.{index_more}
use Rattle.flush_order.proofs.blockers.new_index.Goals as goal

pub loop-place-preserved : goal.loop-place-preserved
loop-place-preserved c =
    let schema = c.args.new.now.schema.now in
    let changes = c.args.new.now.changes.now in
    let here : (c.at-row.result.now.table, c.at-row.result.now.key) ≡ new_place schema changes c.loop-place.place = ap (λ (row : ReadyRow). (row.table, row.key)) c.at-row.ensures in
    index_more (new_place schema changes) c.loop-place.place c.loop-place.index c.enter.new.index (c.at-row.result.now.table, c.at-row.result.now.key) here c.loop-place.invariant c.in_ok-enter.ensures
