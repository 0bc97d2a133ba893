use Rattle.std.proofs.Common.{◌≡◌, length}
use Rattle.flush_plan.specs.Flushing.{Keys}
use Rattle.plan_statements.specs.Known.{AreKeysAt}
use Rattle.plan_statements.proofs.KeyLemmas.{IsPutTo}
use Rattle.plan_statements.proofs.keys.put_keys.Given as goal

abbrev pub invariant-loop-number : goal.invariant-loop-number
invariant-loop-number l = (length l.known ≡ length l.fn.known) × ((keys : Keys) → AreKeysAt keys l.fn.known → IsPutTo keys l.places l.answered l.number l.known)
