use Rattle.std.proofs.Common.{◌≡◌, drop}
use Rattle.std.specs.List.{list_any}
use Rattle.expr_types.specs.Level as level
use Rattle.select_rows.proofs.group.in_order.Given as goal

abbrev pub invariant-loop-key : goal.invariant-loop-key
invariant-loop-key l = list_any (λ k. level.has_aggregate k.0) (drop l.key-index l.key-items) ≡ list_any (λ k. level.has_aggregate k.0) l.order
