use Rattle.std.proofs.Common.{length}
use Rattle.flush_writes.proofs.writings.+push_given.Given as goal

abbrev pub decreases-push_given : goal.decreases-push_given
decreases-push_given l = length l.key.now
