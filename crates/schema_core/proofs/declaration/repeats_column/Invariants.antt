use Rattle.std.proofs.Common.{◌≡◌, drop}
use Rattle.std.specs.List.{list_any}
use Rattle.schema_core.specs.Catalog.{same_name, has_name}
use Rattle.schema_core.specs.Declaration.{some_two}
use Rattle.schema_core.proofs.declaration.repeats_column.Given as goal

abbrev pub invariant-loop-place : goal.invariant-loop-place
invariant-loop-place l = some_two (λ one other. same_name one.name other.name) (drop l.place l.columns) ≡ some_two (λ one other. same_name one.name other.name) l.columns
