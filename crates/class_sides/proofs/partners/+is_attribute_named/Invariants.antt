use Rattle.std.proofs.Common.{length}
use Rattle.class_sides.proofs.partners.+is_attribute_named.Given as goal

abbrev pub decreases-is_attribute_named : goal.decreases-is_attribute_named
decreases-is_attribute_named l = length l.attributes.now
