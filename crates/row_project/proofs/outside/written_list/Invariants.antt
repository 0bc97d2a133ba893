use Rattle.std.proofs.Common.{◌≡◌, take}
use Rattle.std.specs.List.{filter}
use Rattle.row_project.specs.Warnings.{is_written}
use Rattle.row_project.proofs.outside.written_list.Given as goal

abbrev pub invariant-loop-object : goal.invariant-loop-object
invariant-loop-object l = l.written.items ≡ filter (is_written l.arena l.prepared) (take l.object-index l.object-items)
