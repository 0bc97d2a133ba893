use Rattle.std.proofs.Common.{[], ◌∷◌, ◌++◌, if◌then◌else◌, ap, ◌∙◌}
use Rattle.std.specs.Option.{unwrap_or}
use Rattle.flush_order.specs.Index.{rows_under}
use Rattle.flush_order.specs.Sorted.{same_place}
use Rattle.flush_order.proofs.IndexSteps.{entered}
use Rattle.flush_order.proofs.index.enter.Goals as goal

pub returns : goal.returns
returns c q =
    entered c.args.index.now c.remove.new.self c.insert.new.self (c.args.table, c.in_ok-copied.field-0) c.args.row c.push.new.self c.remove.ensures.updates.0 c.in_ok-insert.ensures.updates.0
    (c.in_ok-push.ensures.ok ∙ ap (λ rows. rows ++ c.args.row ∷ []) (c.rows_found-rows.ensures ∙ ap (λ found. unwrap_or found []) c.remove.ensures.value)) q
    ∙ ap (λ key. rows_under c.args.index.now q ++ (if same_place (c.args.table, key) q then c.args.row ∷ [] else [])) c.in_ok-copied.ensures
