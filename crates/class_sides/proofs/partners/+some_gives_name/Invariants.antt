use Rattle.std.proofs.Common.{length}
use Rattle.class_sides.proofs.partners.+some_gives_name.Given as goal

abbrev pub decreases-some_gives_name : goal.decreases-some_gives_name
decreases-some_gives_name l = length l.sides.now
