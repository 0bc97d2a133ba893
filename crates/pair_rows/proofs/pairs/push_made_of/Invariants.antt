use Rattle.std.proofs.Common.{◌≡◌, ◌++◌, drop}
use Rattle.std.specs.List.{enumerate_from, flat_map}
use Rattle.pair_rows.specs.Pairs.{made_by}
use Rattle.pair_rows.proofs.pairs.push_made_of.Given as goal

abbrev pub invariant-loop-number : goal.invariant-loop-number
invariant-loop-number l =
    l.out.items ++ flat_map (made_by l.arena l.prepared l.object) (enumerate_from l.number (drop l.number l.relations))
    ≡ l.fn.out.items ++ flat_map (made_by l.arena l.prepared l.object) (enumerate_from 0 l.relations)
