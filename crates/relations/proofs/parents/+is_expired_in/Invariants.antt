use Rattle.std.proofs.Common.{length}
use Rattle.relations.proofs.parents.+is_expired_in.Given as goal

abbrev pub decreases-is_expired_in : goal.decreases-is_expired_in
decreases-is_expired_in l = length l.names.now
