use Rattle.std.proofs.Common.{◌≡◌, ◌++◌, not, take}
use Rattle.std.specs.List.{filter}
use Rattle.pair_rows.specs.Pairs.{is_leaving}
use Rattle.row_project.proofs.outside.push_parted.Given as goal

abbrev pub invariant-loop-member : goal.invariant-loop-member
invariant-loop-member l = l.out ≡ l.fn.out ++ filter (λ member. not (is_leaving l.prepared member)) (take l.member-index l.member-items)
