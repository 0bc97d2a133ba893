use Rattle.std.proofs.Common.{◌≡◌, ◌++◌, map, drop}
use Rattle.sql_semantics.specs.Shapes.{scope_of}
use Rattle.statement_kinds.proofs.kinds.scope_of.Given as goal

abbrev pub invariant-loop-join : goal.invariant-loop-join
invariant-loop-join l = l.scope.items ++ map (λ source. source.table) (map (λ join. join.origin) (drop l.join-index l.join-items)) ≡ scope_of l.s
