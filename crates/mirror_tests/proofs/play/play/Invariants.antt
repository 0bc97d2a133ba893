use Rattle.object_arena.specs.Fit.{IsFit}
use Rattle.mirror_tests.proofs.play.play.Given as goal

abbrev pub invariant-loop-text : goal.invariant-loop-text
invariant-loop-text l = IsFit l.mapping l.arena
