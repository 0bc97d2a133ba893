use Rattle.std.proofs.Common.{◌≡◌}
use Rattle.row_statements.proofs.references.index_uniques.Given as goal

abbrev pub invariant-loop-unique : goal.invariant-loop-unique
invariant-loop-unique l = l.store ≡ l.fn.store
