use Rattle.std.proofs.Common.{sym, ap, ◌∙◌}
use Rattle.plan_statements.specs.Stale.{has_place}
use Rattle.plan_statements.proofs.StaleLemmas.{any_failed}
use Rattle.plan_statements.proofs.stale.is_some_stale.Goals as goal

pub loop-key-preserved : goal.loop-key-preserved
loop-key-preserved c =
    any_failed (has_place c.args.places.now c.args.table) c.args.keys.now c.loop-key.key-index c.key-item.result c.loop-key-test.true c.key-item.is
    (ap (has_place c.args.places.now c.args.table) (sym c.in_ok-copied.ensures) ∙ sym c.if-contains.ensures)
    ∙ c.loop-key.invariant
