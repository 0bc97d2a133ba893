use Rattle.std.proofs.Common.{◌≡◌, ◌++◌, map, take}
use Rattle.pair_rows.specs.Pairs.{made_row}
use Rattle.pair_rows.proofs.rows.push_made.Given as goal

abbrev pub invariant-loop-pair : goal.invariant-loop-pair
invariant-loop-pair l = l.out ≡ l.fn.out ++ map (made_row l.projection.mapping.now l.projection.arena.now l.projection.names.now) (take l.pair-index l.pairs)
