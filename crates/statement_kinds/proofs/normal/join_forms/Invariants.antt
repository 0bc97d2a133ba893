use Rattle.std.proofs.Common.{◌≡◌, ◌++◌, map, drop}
use Rattle.expr_types.specs.NormalSelect.{normal_join}
use Rattle.statement_kinds.proofs.normal.join_forms.Given as goal

abbrev pub invariant-loop-join : goal.invariant-loop-join
invariant-loop-join l = l.out.items ++ map normal_join (drop l.join-index l.join-items) ≡ map normal_join l.joins
