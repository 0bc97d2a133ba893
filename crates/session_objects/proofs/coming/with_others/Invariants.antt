use Rattle.std.proofs.Common.{◌≡◌, ◌++◌, ◌∷◌, drop}
use Rattle.object_parts.specs.Sides.{without}
use Rattle.session_objects.specs.Taking.{outsiders}
use Rattle.session_objects.proofs.coming.with_others.Given as goal

abbrev pub invariant-loop-other : goal.invariant-loop-other
invariant-loop-other l = l.list ++ outsiders l.arena (without (drop l.other-index l.objects) l.object) ≡ outsiders l.arena (l.object ∷ without l.objects l.object)
