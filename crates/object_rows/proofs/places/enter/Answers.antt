use Rattle.std.proofs.Common.{cond, Some, ap, ◌∙◌}
use Rattle.std.specs.BTreeMap.{get}
use Rattle.object_rows.specs.Places.{name_cmp}
use Rattle.object_rows.proofs.PlaceSteps.{name_same}
use Rattle.object_rows.proofs.places.enter.Goals as goal

pub returns : goal.returns
returns c = λ table object.
    c.in_ok-insert.ensures.updates.0 (table, object)
    ∙ ap (λ b. cond b (Some c.args.place) (get name_cmp c.args.places.now (table, object))) (name_same table object c.args.row)
