use Rattle.std.proofs.Common.{◌≡◌, drop}
use Rattle.schema_core.specs.Catalog.{same_name}
use Rattle.schema_core.specs.Declaration.{some_two}
use Rattle.expr_scopes.proofs.naming.repeats.Given as goal

abbrev pub invariant-loop-place : goal.invariant-loop-place
invariant-loop-place l = some_two same_name (drop l.place l.names) ≡ some_two same_name l.names
