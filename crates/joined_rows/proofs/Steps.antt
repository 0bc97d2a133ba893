-- Steps of the loop over joined options.
use Rattle.std.proofs.Common.{append_assoc, append-nil}
use Rattle.class_layouts.proofs.Steps.{left_at}

pub ruleset part_steps = (left_at, append_assoc, append-nil)
