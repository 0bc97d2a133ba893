use Rattle.statement_names.proofs.Joins.{Reaches}
use Rattle.statement_names.proofs.select.joins_named.Given as goal

abbrev pub invariant-loop-join : goal.invariant-loop-join
invariant-loop-join l = Reaches l.schema l.first l.joins l.scope.items l.named l.join-index
