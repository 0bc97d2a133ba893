use Rattle.std.proofs.Common.{length}
use Rattle.class_sides.proofs.candidates.+has_attributes.Given as goal

abbrev pub decreases-has_attributes : goal.decreases-has_attributes
decreases-has_attributes l = length l.names.now
