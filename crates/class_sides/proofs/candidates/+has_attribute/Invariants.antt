use Rattle.std.proofs.Common.{length}
use Rattle.class_sides.proofs.candidates.+has_attribute.Given as goal

abbrev pub decreases-has_attribute : goal.decreases-has_attribute
decreases-has_attribute l = length l.attributes.now
