use Rattle.std.proofs.Common.{length}
use Rattle.relations.proofs.keys.+is_over_key.Given as goal

abbrev pub decreases-is_over_key : goal.decreases-is_over_key
decreases-is_over_key l = length l.names.now
