use Rattle.std.proofs.Common.{◌≡◌, drop}
use Rattle.query_names.specs.Scopes.{class_meant}
use Rattle.query_names.proofs.scope.class_meant.Given as goal

abbrev pub invariant-loop-placed : goal.invariant-loop-placed
invariant-loop-placed l = class_meant l.mapping (drop l.placed-index l.classes) l.name ≡ class_meant l.mapping l.classes l.name
