use Rattle.std.proofs.Common.{◌≡◌, ◌++◌, drop}
use Rattle.std.specs.List.{flat_map}
use Rattle.object_rows.specs.Rows.{rows_gone}
use Rattle.object_writes.proofs.gone.gone_rows.Given as goal

abbrev pub invariant-loop-object : goal.invariant-loop-object
invariant-loop-object l = l.rows ++ flat_map (rows_gone l.mapping l.arena) (drop l.object-index l.prepared.deleted) ≡ flat_map (rows_gone l.mapping l.arena) l.prepared.deleted
