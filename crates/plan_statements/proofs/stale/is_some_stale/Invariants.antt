use Rattle.std.proofs.Common.{◌≡◌, drop}
use Rattle.std.specs.List.{list_any}
use Rattle.plan_statements.specs.Stale.{has_place}
use Rattle.plan_statements.proofs.stale.is_some_stale.Given as goal

abbrev pub invariant-loop-key : goal.invariant-loop-key
invariant-loop-key l = list_any (has_place l.places l.table) (drop l.key-index l.keys) ≡ list_any (has_place l.places l.table) l.keys
