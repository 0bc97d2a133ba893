use Rattle.std.proofs.Common.{◌≡◌, ◌++◌, map, take}
use Rattle.std.specs.List.{filter}
use Rattle.pair_rows.specs.Pairs.{is_parted, pair_of}
use Rattle.pair_rows.proofs.pairs.push_parted.Given as goal

abbrev pub invariant-loop-member : goal.invariant-loop-member
invariant-loop-member l = l.out.items ≡ l.fn.out.items ++ map (pair_of l.relation l.object) (filter (is_parted l.arena l.prepared) (take l.member-index l.members))
