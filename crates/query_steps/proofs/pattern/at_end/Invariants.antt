use Rattle.std.proofs.Common.{[]}
use Rattle.query_steps.specs.Ends.{AreEndsTo}
use Rattle.query_steps.proofs.pattern.at_end.Given as goal

abbrev pub invariant-loop : goal.invariant-loop
invariant-loop l = AreEndsTo l.counter [] l.text l.ends.items
