use Rattle.std.proofs.Common.{◌≡◌, take}
use Rattle.std.specs.List.{filter}
use Rattle.object_arena.specs.Graph.{object_at}
use Rattle.prepared_objects.specs.Leaving.{starts_deletes}
use Rattle.prepared_objects.proofs.leaving.delete_starts.Given as goal

abbrev pub invariant-loop-object : goal.invariant-loop-object
invariant-loop-object l = l.starts ≡ filter (λ object. starts_deletes (object_at l.arena object)) (take l.object-index l.object-items)
