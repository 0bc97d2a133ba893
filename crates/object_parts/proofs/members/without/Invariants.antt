use Rattle.std.proofs.Common.{◌≡◌, ◌++◌, drop}
use Rattle.object_parts.specs.Members.{without}
use Rattle.object_parts.proofs.members.without.Given as goal

abbrev pub invariant-loop-object : goal.invariant-loop-object
invariant-loop-object l = l.left ++ without l.others (drop l.object-index l.objects) ≡ without l.others l.objects
