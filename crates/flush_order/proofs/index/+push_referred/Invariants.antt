use Rattle.std.proofs.Common.{length}
use Rattle.flush_order.proofs.index.+push_referred.Given as goal

abbrev pub decreases-push_referred : goal.decreases-push_referred
decreases-push_referred l = length l.foreigns.now
