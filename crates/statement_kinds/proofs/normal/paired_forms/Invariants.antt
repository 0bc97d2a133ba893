use Rattle.std.proofs.Common.{◌≡◌, ◌++◌, map, drop}
use Rattle.expr_types.specs.Normal.{normal}
use Rattle.statement_kinds.proofs.normal.paired_forms.Given as goal

abbrev pub invariant-loop-pair : goal.invariant-loop-pair
invariant-loop-pair g l = l.out.items ++ map (λ pair. (normal pair.0, pair.1)) (drop l.pair-index l.pair-items) ≡ map (λ pair. (normal pair.0, pair.1)) l.pairs
