use Rattle.std.proofs.Common.{◌≡◌, drop}
use Rattle.std.specs.List.{flat_map}
use Rattle.statement_kinds.specs.Mismatches.{mismatch}
use Rattle.statement_kinds.proofs.kinds.judge_pairs.Given as goal

abbrev pub invariant-loop-item : goal.invariant-loop-item
invariant-loop-item g l = flat_map (λ pair. mismatch l.schema l.scope pair.0) (drop l.item-index l.pairs) ≡ flat_map (λ pair. mismatch l.schema l.scope pair.0) l.pairs
