use Rattle.std.proofs.Common.{length}
use Rattle.flush_writes.proofs.runs.+some_nothing.Given as goal

abbrev pub decreases-some_nothing : goal.decreases-some_nothing
decreases-some_nothing l = length l.columns.now
