use Rattle.std.proofs.Common.{length, sym, subst}
use Rattle.std.proofs.lemmas.Result.{IfOk-weaker}
use Rattle.row_order.specs.Lists.{AreRows, AreTold}
use Rattle.flush_order.specs.Index.{gone_targets}
use Rattle.flush_order.proofs.Listing.{gone_are_listed, targets_are_rows}
use Rattle.flush_order.proofs.blockers.gone_lists.Goals as goal

pub waiting_of-requires-clause-rows : goal.waiting_of-requires-clause-rows
waiting_of-requires-clause-rows c =
    let gone = c.args.gone.now in
    subst AreRows (sym c.as_slice.ensures.value) (targets_are_rows gone.schema.now gone.changes.now (length gone.rows.now) c.in_ok-index.index c.in_ok-targets.targets.items c.in_ok-index.ensures c.in_ok-targets.ensures)

pub returns-clause-lists : goal.returns-clause-lists
returns-clause-lists c =
    let gone = c.args.gone.now in
    let told : AreTold (gone_targets gone.schema.now gone.changes.now c.in_ok-index.index) (length gone.rows.now) c.as_slice.result.now =
    subst (AreTold (gone_targets gone.schema.now gone.changes.now c.in_ok-index.index) (length gone.rows.now)) (sym c.as_slice.ensures.value) c.in_ok-targets.ensures in
    IfOk-weaker c.waiting_of.result _ _
    (λ waiting mirror. gone_are_listed gone.schema.now gone.changes.now gone.rows.now c.in_ok-index.index c.as_slice.result.now waiting.items c.requires.ready c.in_ok-index.ensures told mirror)
    c.waiting_of.ensures
