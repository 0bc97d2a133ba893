use Rattle.std.proofs.Common.{◌≡◌}
use Rattle.schema_core.specs.DependencyOrder.{first_tables}
use Rattle.schema_core.proofs.schema.Schema.tables_in_order.Given as goal

abbrev pub invariant-loop-number : goal.invariant-loop-number
invariant-loop-number l = l.placed.items ≡ first_tables l.self l._number
