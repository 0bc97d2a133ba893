use Rattle.std.proofs.Common.{◌≡◌, ◌++◌, map, take}
use Rattle.std.specs.List.{filter}
use Rattle.pair_rows.specs.Pairs.{is_made, pair_of}
use Rattle.pair_rows.proofs.pairs.push_made.Given as goal

abbrev pub invariant-loop-member : goal.invariant-loop-member
invariant-loop-member l = l.out.items ≡ l.fn.out.items ++ map (pair_of l.relation l.object) (filter (is_made l.arena l.prepared l.object) (take l.member-index l.members))
