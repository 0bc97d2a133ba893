use Rattle.std.proofs.Common.{◌≡◌, ◌++◌, map, take}
use Rattle.row_project.specs.Warnings.{warning_of}
use Rattle.row_project.proofs.outside.push_warnings.Given as goal

abbrev pub invariant-loop-object : goal.invariant-loop-object
invariant-loop-object l = l.out ≡ l.fn.out ++ map (warning_of (l.number, l.relation)) (take l.object-index l.objects)
