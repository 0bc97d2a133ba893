use Rattle.std.proofs.Common.{length}
use Rattle.class_sides.proofs.pairs.+some_overlaps.Given as goal

abbrev pub decreases-some_overlaps : goal.decreases-some_overlaps
decreases-some_overlaps l = length l.behind.now
