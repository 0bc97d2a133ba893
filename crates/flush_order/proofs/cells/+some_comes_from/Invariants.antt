use Rattle.std.proofs.Common.{length}
use Rattle.flush_order.proofs.cells.+some_comes_from.Given as goal

abbrev pub decreases-some_comes_from : goal.decreases-some_comes_from
decreases-some_comes_from l = length l.cells.now
