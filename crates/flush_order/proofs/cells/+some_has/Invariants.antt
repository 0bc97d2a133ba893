use Rattle.std.proofs.Common.{length}
use Rattle.flush_order.proofs.cells.+some_has.Given as goal

abbrev pub decreases-some_has : goal.decreases-some_has
decreases-some_has l = length l.posts.now
