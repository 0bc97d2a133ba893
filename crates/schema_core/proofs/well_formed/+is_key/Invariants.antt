use Rattle.std.proofs.Common.{length}
use Rattle.schema_core.proofs.well_formed.+is_key.Given as goal

abbrev pub decreases-is_key : goal.decreases-is_key
decreases-is_key l = length l.columns.now
