use Rattle.std.proofs.Common.{length}
use Rattle.class_sides.proofs.pairs.+is_served.Given as goal

abbrev pub decreases-is_served : goal.decreases-is_served
decreases-is_served l = length l.keys.now
