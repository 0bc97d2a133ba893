use Rattle.std.proofs.Common.{◌≡◌, replicate}
use Rattle.base_core.specs.declared.value.Value.TheVariants.{Null}
use Rattle.bulk_rows.proofs.cells.nulls.Given as goal

abbrev pub invariant-loop : goal.invariant-loop
invariant-loop l = l.row.items ≡ replicate l.counter Null
