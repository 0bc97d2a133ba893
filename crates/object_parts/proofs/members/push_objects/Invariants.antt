use Rattle.std.proofs.Common.{◌≡◌, ◌++◌, take}
use Rattle.object_parts.proofs.members.push_objects.Given as goal

abbrev pub invariant-loop-object : goal.invariant-loop-object
invariant-loop-object l = l.out ≡ l.fn.out ++ take l.object-index l.objects
