use Rattle.std.proofs.Common.{length}
use Rattle.class_sides.proofs.pairs.+mutual_of.Given as goal

abbrev pub decreases-mutual_of : goal.decreases-mutual_of
decreases-mutual_of l = length l.sides.now
