use Rattle.std.proofs.Common.{◌≡◌}
use Rattle.row_statements.proofs.references.index_foreigns.Given as goal

abbrev pub invariant-loop-number : goal.invariant-loop-number
invariant-loop-number l = l.store ≡ l.fn.store
