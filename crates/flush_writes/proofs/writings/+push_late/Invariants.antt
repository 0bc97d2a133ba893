use Rattle.std.proofs.Common.{length}
use Rattle.flush_writes.proofs.writings.+push_late.Given as goal

abbrev pub decreases-push_late : goal.decreases-push_late
decreases-push_late l = length l.columns.now
