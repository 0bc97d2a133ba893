use Rattle.std.proofs.Common.{◌≡◌, drop}
use Rattle.std.specs.List.{list_any}
use Rattle.base_core.specs.declared.ids.ObjId.{ObjId}
use Rattle.object_arena.specs.Graph.{object_at}
use Rattle.session_objects.specs.Conflicts.{conflicts_in, has_conflict}
use Rattle.session_objects.proofs.conflicts.has_conflict.Given as goal

abbrev pub invariant-loop-object : goal.invariant-loop-object
invariant-loop-object l = list_any (λ (o : ObjId). conflicts_in (object_at l.arena o).state l.arena l.objects o) (drop l.object-index l.objects) ≡ has_conflict l.arena l.objects
