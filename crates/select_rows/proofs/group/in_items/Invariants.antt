use Rattle.std.proofs.Common.{◌≡◌, drop}
use Rattle.std.specs.List.{list_any}
use Rattle.expr_types.specs.Level as level
use Rattle.select_rows.proofs.group.in_items.Given as goal

abbrev pub invariant-loop-item : goal.invariant-loop-item
invariant-loop-item l = list_any (λ i. level.has_aggregate i.0) (drop l.item-index l.item-items) ≡ list_any (λ i. level.has_aggregate i.0) l.items
