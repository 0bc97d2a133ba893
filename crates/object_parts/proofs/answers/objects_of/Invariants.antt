use Rattle.std.proofs.Common.{◌≡◌, ◌++◌, drop, map}
use Rattle.object_parts.proofs.answers.objects_of.Given as goal

abbrev pub invariant-loop-one : goal.invariant-loop-one
invariant-loop-one l = l.objects ++ map (λ one. one.owner) (drop l.one-index l.taken) ≡ map (λ one. one.owner) l.taken
