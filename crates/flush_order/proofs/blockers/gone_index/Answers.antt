use Rattle.std.proofs.Common.{◌≡◌, ap}
use Rattle.flush_order.specs.Index.{gone_place}
use Rattle.flush_order.specs.declared.refers.ReadyGone.{ReadyGone}
use Rattle.flush_order.proofs.IndexSteps.{index_more}
use Rattle.flush_order.proofs.blockers.gone_index.Goals as goal

pub loop-place-preserved : goal.loop-place-preserved
loop-place-preserved c =
    let schema = c.args.gone.now.schema.now in
    let changes = c.args.gone.now.changes.now in
    let here : (c.at-row.result.now.name.table, c.at-row.result.now.key) ≡ gone_place schema changes c.loop-place.place = ap (λ (row : ReadyGone). (row.name.table, row.key)) c.at-row.ensures.ready in
    index_more (gone_place schema changes) c.loop-place.place c.loop-place.index c.enter.new.index (c.at-row.result.now.name.table, c.at-row.result.now.key) here c.loop-place.invariant c.in_ok-enter.ensures
