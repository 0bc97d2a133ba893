use Rattle.std.proofs.Common.{◌++◌, map, true, sym, ap, ◌∙◌}
use Rattle.std.proofs.lemmas.List.Elements.{filter-append}
use Rattle.std.specs.List.{filter}
use Rattle.flush_writes.specs.Writes.{cells_when, late_gone, writing_some}
use Rattle.flush_plan.proofs.late.late_writings.Goals as goal

pub returns : goal.returns
returns c =
    let schema = c.args.schema.now in
    let changes = c.args.changes.now in
    c.in_ok-push_late_gone.ensures
    ∙ ap (λ ws. ws ++ filter writing_some (map (late_gone schema changes) changes.gone)) c.in_ok-writings.ensures
    ∙ sym (filter-append writing_some (map (cells_when schema changes true) changes.changed) (map (late_gone schema changes) changes.gone))
