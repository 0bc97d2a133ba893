use Rattle.std.proofs.Common.{◌++◌, map, ◌∙◌, append_assoc}
use Rattle.std.specs.List.{filter}
use Rattle.flush_plan.specs.Planning.{is_of, late_old, late_updates_of}
use Rattle.flush_writes.specs.Writes.{update_of}
use Rattle.flush_plan.proofs.late.push_table.Goals as goal

pub returns : goal.returns
returns c =
    let schema = c.args.new.now.schema.now in
    let changes = c.args.new.now.changes.now in
    c.in_ok-push_late_old.ensures
    ∙ (λ i. c.in_ok-push_all_late_new.ensures i ++ map update_of (filter (λ row. is_of c.args.table row.0.0) (c.requires.old i)))
    ∙ append_assoc c.args.out.now.items (late_updates_of schema changes c.args.table c.args.order.now) (map update_of (filter (λ row. is_of c.args.table row.0.0) (late_old schema changes)))
