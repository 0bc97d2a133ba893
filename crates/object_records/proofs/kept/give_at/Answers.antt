use Rattle.std.proofs.Common.{◌+◌, ◌≤◌, arith}
use Rattle.object_records.proofs.kept.give_at.Goals as goal

pub give_to-requires-clause-object : goal.give_to-requires-clause-object
give_to-requires-clause-object c = (omega arith, omega (arith, c.requires.place))
