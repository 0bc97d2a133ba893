use Rattle.std.proofs.Common.{◌≡◌, ◌++◌, drop}
use Rattle.std.specs.List.{flat_map}
use Rattle.row_project.specs.Warnings.{warned_of}
use Rattle.row_project.proofs.outside.warnings.Given as goal

abbrev pub invariant-loop-object : goal.invariant-loop-object
invariant-loop-object l = l.warnings ++ flat_map (warned_of l.mapping l.arena l.prepared) (drop l.object-index l.object-items) ≡ flat_map (warned_of l.mapping l.arena l.prepared) l.object-items
