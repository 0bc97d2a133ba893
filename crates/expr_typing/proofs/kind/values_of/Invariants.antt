use Rattle.std.proofs.Common.{◌≡◌, map, drop, Ok}
use Rattle.sql_semantics.specs.Kinds.{value_kind, all_of}
use Rattle.expr_typing.proofs.kind.values_of.Given as goal

abbrev pub invariant-loop-value : goal.invariant-loop-value
invariant-loop-value l = all_of l.wanted (map (λ v. Ok (value_kind v)) (drop l.value-index l.values)) ≡ all_of l.wanted (map (λ v. Ok (value_kind v)) l.values)
