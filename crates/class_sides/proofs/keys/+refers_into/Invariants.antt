use Rattle.std.proofs.Common.{length}
use Rattle.class_sides.proofs.keys.+refers_into.Given as goal

abbrev pub decreases-refers_into : goal.decreases-refers_into
decreases-refers_into l = length l.found.now
