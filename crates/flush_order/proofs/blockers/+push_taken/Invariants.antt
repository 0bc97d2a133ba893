use Rattle.std.proofs.Common.{length}
use Rattle.flush_order.proofs.blockers.+push_taken.Given as goal

abbrev pub decreases-push_taken : goal.decreases-push_taken
decreases-push_taken l = length l.cells.now
