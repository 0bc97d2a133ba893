use Rattle.std.proofs.Common.{◌≡◌, ◌++◌, drop}
use Rattle.std.specs.List.{flat_map}
use Rattle.pair_rows.specs.Pairs.{made_of}
use Rattle.pair_rows.proofs.pairs.made_pairs.Given as goal

abbrev pub invariant-loop-object : goal.invariant-loop-object
invariant-loop-object l =
    l.pairs.items ++ flat_map (made_of l.mapping l.arena l.prepared) (drop l.object-index l.object-items) ≡ flat_map (made_of l.mapping l.arena l.prepared) l.object-items
