use Rattle.std.proofs.Common.{length}
use Rattle.class_sides.proofs.ends.+some_foreign_has.Given as goal

abbrev pub decreases-some_foreign_has : goal.decreases-some_foreign_has
decreases-some_foreign_has l = length l.foreigns.now
