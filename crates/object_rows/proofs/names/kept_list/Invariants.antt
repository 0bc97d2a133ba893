use Rattle.std.proofs.Common.{◌≡◌, take}
use Rattle.std.specs.List.{filter}
use Rattle.object_rows.specs.Seen.{keeps_rows}
use Rattle.object_rows.proofs.names.kept_list.Given as goal

abbrev pub invariant-loop-object : goal.invariant-loop-object
invariant-loop-object l = l.kept.items ≡ filter (keeps_rows l.arena l.prepared) (take l.object-index l.object-items)
