use Rattle.std.proofs.Common.{◌≡◌, map, take}
use Rattle.std.specs.Prelude.{slice_index_or}
use Rattle.flush_plan.specs.Planning.{no_writing}
use Rattle.flush_plan.proofs.late.in_order.Given as goal

abbrev pub invariant-loop-number : goal.invariant-loop-number
invariant-loop-number l = l.sorted.items ≡ map (λ number. slice_index_or l.writings number no_writing) (take l.number-index l.numbers)
