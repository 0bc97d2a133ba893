use Rattle.std.proofs.Common.{◌≡◌, ◌++◌, drop}
use Rattle.base_core.specs.declared.value.Value.TheVariants.{Int}
use Rattle.schema_core.specs.Apply.{with_key}
use Rattle.row_judging.proofs.cells.with_key.Given as goal

abbrev pub invariant-loop-place : goal.invariant-loop-place
invariant-loop-place l = l.cells.items ++ with_key (drop l.place l.columns) (Int l.key) (drop l.place l.row) ≡ with_key l.columns (Int l.key) l.row
