use Rattle.std.proofs.Common.{length}
use Rattle.relations.proofs.keys.+gives_key.Given as goal

abbrev pub decreases-gives_key : goal.decreases-gives_key
decreases-gives_key l = length l.names.now
