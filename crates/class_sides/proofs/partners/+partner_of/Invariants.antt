use Rattle.std.proofs.Common.{length}
use Rattle.class_sides.proofs.partners.+partner_of.Given as goal

abbrev pub decreases-partner_of : goal.decreases-partner_of
decreases-partner_of l = length l.sides.now
