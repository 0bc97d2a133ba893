use Rattle.std.proofs.Common.{◌≡◌, ◌∷◌, [], drop}
use Rattle.statement_kinds.specs.Mismatches.{join_mismatches}
use Rattle.statement_kinds.proofs.kinds.judge_joins.Given as goal

abbrev pub invariant-loop-join : goal.invariant-loop-join
invariant-loop-join l = join_mismatches l.schema l.scope.items (drop l.join-index l.joins) ≡ join_mismatches l.schema (l.fn.first ∷ []) l.joins
