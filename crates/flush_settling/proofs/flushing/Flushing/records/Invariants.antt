use Rattle.std.proofs.Common.{◌≡◌, length}
use Rattle.graph_flushed.specs.Ready.{AreNarrowThen}
use Rattle.flush_settling.specs.Ready.{written_of}
use Rattle.graph_flushed.proofs.ObjectSteps.{AreFlushed}
use Rattle.flush_settling.proofs.flushing.Flushing.records.Given as goal

abbrev pub invariant-loop-number : goal.invariant-loop-number
invariant-loop-number l = AreFlushed (written_of l.self) l.records l.number × AreNarrowThen l.self.projection.now.arena.now l.records l.number × (length l.records ≡ l.number)
