use Rattle.std.proofs.Common.{◌≡◌, drop, not, ◌&&◌, true}
use Rattle.std.specs.List.{find}
use Rattle.schema_core.specs.DependencyOrder.{is_among, is_ready, least_left, table_ids}
use Rattle.schema_core.proofs.schema.Schema.least_ready.Given as goal

abbrev pub invariant-loop-number : goal.invariant-loop-number
invariant-loop-number l = find (λ table. not (is_among l.placed table) && (is_ready l.self l.placed) table) (drop l.number (table_ids l.self)) ≡ least_left l.self l.placed (is_ready l.self l.placed)
