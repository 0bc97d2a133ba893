use Rattle.std.proofs.Common.{length}
use Rattle.class_sides.proofs.ends.+is_all_keys.Given as goal

abbrev pub decreases-is_all_keys : goal.decreases-is_all_keys
decreases-is_all_keys l = length l.columns.now
