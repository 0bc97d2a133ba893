use Rattle.std.proofs.Common.{length}
use Rattle.flush_writes.proofs.writings.+push_gone.Given as goal

abbrev pub decreases-push_gone : goal.decreases-push_gone
decreases-push_gone l = length l.columns.now
