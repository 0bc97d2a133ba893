use Rattle.std.proofs.Common.{length}
use Rattle.schema_core.proofs.well_formed.+has_open_key.Given as goal

abbrev pub decreases-has_open_key : goal.decreases-has_open_key
decreases-has_open_key l = length l.columns.now
