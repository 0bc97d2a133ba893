use Rattle.std.proofs.Common.{length}
use Rattle.flush_order.proofs.cells.+push_cleared.Given as goal

abbrev pub decreases-push_cleared : goal.decreases-push_cleared
decreases-push_cleared g l = length l.columns.now
