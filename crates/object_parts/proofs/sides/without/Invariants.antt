use Rattle.std.proofs.Common.{◌≡◌, take}
use Rattle.object_parts.specs.Sides.{without}
use Rattle.object_parts.proofs.sides.without.Given as goal

abbrev pub invariant-loop-other : goal.invariant-loop-other
invariant-loop-other l = l.rest ≡ without (take l.other-index l.objects) l.object
