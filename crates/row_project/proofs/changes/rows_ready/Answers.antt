use Rattle.std.proofs.Common.{refl}
use Rattle.std.proofs.lemmas.Result.{IfOk-weaker}
use Rattle.flush_order.specs.Ready.{AreInRange, AreReady}
use Rattle.row_project.proofs.Range.{in_range}
use Rattle.row_project.proofs.changes.rows_ready.Goals as goal

pub ready_rows-requires : goal.ready_rows-requires
ready_rows-requires c = in_range c.args.schema.now c.args.changes.now c.requires (c.if-not-are_few.ensures refl) c.are_narrow.ensures.few (c.if-not-are_narrow.ensures.narrow refl)

pub returns-clause-range : goal.returns-clause-range
returns-clause-range c =
    IfOk-weaker c.ready_rows.result (λ rows. AreReady c.args.schema.now c.args.changes.now rows.items) (λ rows. AreInRange c.args.schema.now c.args.changes.now)
    (λ rows are. in_range c.args.schema.now c.args.changes.now c.requires (c.if-not-are_few.ensures refl) c.are_narrow.ensures.few (c.if-not-are_narrow.ensures.narrow refl)) c.ready_rows.ensures
