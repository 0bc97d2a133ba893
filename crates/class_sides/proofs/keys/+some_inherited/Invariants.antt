use Rattle.std.proofs.Common.{length}
use Rattle.class_sides.proofs.keys.+some_inherited.Given as goal

abbrev pub decreases-some_inherited : goal.decreases-some_inherited
decreases-some_inherited l = length l.foreigns.now
