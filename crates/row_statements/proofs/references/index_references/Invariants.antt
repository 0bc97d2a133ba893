use Rattle.std.proofs.Common.{◌≡◌}
use Rattle.row_statements.proofs.references.index_references.Given as goal

abbrev pub invariant-loop-foreign : goal.invariant-loop-foreign
invariant-loop-foreign l = l.store ≡ l.fn.store
