use Rattle.std.proofs.Common.{◌≡◌, drop}
use Rattle.std.specs.List.{list_any}
use Rattle.schema_core.specs.Catalog.{same_name, has_name}
use Rattle.schema_core.specs.Declaration.{some_two, shares_one}
use Rattle.schema_core.proofs.declaration.shares.Given as goal

abbrev pub invariant-loop-place : goal.invariant-loop-place
invariant-loop-place l = some_two shares_one (drop l.place l.foreigns) ≡ some_two shares_one l.foreigns
