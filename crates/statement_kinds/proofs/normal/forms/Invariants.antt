use Rattle.std.proofs.Common.{◌≡◌, ◌++◌, map, drop}
use Rattle.expr_types.specs.Normal.{normal}
use Rattle.statement_kinds.proofs.normal.forms.Given as goal

abbrev pub invariant-loop-e : goal.invariant-loop-e
invariant-loop-e l = l.out ++ map normal (drop l.e-index l.e-items) ≡ map normal l.es
