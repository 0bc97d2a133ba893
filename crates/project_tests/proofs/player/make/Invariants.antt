use Rattle.object_arena.specs.Fit.{IsFit}
use Rattle.project_tests.proofs.player.make.Given as goal

abbrev pub invariant-loop-word : goal.invariant-loop-word
invariant-loop-word l = record { fit : IsFit l.mapping l.arena }
