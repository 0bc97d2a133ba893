use Rattle.std.proofs.Common.{length}
use Rattle.command_resolve.proofs.keys.+parts_fault.Given as goal

abbrev pub decreases-parts_fault : goal.decreases-parts_fault
decreases-parts_fault l = length l.attributes.now
