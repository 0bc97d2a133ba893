use Rattle.std.proofs.Common.{◌≡◌, drop}
use Rattle.std.specs.List.{flat_map}
use Rattle.statement_kinds.specs.Mismatches.{mismatch}
use Rattle.statement_kinds.proofs.kinds.judge_groups.Given as goal

abbrev pub invariant-loop-group : goal.invariant-loop-group
invariant-loop-group l = flat_map (mismatch l.schema l.scope) (drop l.group-index l.groups) ≡ flat_map (mismatch l.schema l.scope) l.groups
