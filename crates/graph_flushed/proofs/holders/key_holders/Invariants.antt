use Rattle.std.proofs.Common.{◌-◌, length}
use Rattle.graph_flushed.proofs.HolderSteps.{AreEntered}
use Rattle.graph_flushed.proofs.holders.key_holders.Given as goal

abbrev pub invariant-loop-behind : goal.invariant-loop-behind
invariant-loop-behind l = AreEntered l.holders.maps.items l.keys l.arena.roots (length l.keys - l.behind)
