use Rattle.std.proofs.Common.{◌≡◌, map}
use Rattle.std.specs.List.{range_with_len}
use Rattle.load_selects.specs.Branches.{class_numbered}
use Rattle.load_selects.proofs.branches.class_ids.Given as goal

abbrev pub invariant-loop-number : goal.invariant-loop-number
invariant-loop-number l = l.ids ≡ map class_numbered (range_with_len 0 l.number)
