use Rattle.std.proofs.Common.{◌≡◌, [], fold, drop}
use Rattle.std.specs.BTreeSet.{insert_key}
use Rattle.pair_rows.specs.Pairs.{pair_cmp}
use Rattle.pair_rows.proofs.pairs.as_set.Given as goal

abbrev pub invariant-loop-pair : goal.invariant-loop-pair
invariant-loop-pair l = fold (insert_key pair_cmp) l.set.keys (drop l.pair-index l.pairs) ≡ fold (insert_key pair_cmp) [] l.pairs
