use Rattle.std.proofs.Common.{◌≡◌, take}
use Rattle.std.specs.List.{filter}
use Rattle.object_arena.specs.Graph.{is_persistent, object_at}
use Rattle.prepared_objects.proofs.leaving.persistent_of.Given as goal

abbrev pub invariant-loop-object : goal.invariant-loop-object
invariant-loop-object l = l.kept ≡ filter (λ object. is_persistent (object_at l.arena object).state) (take l.object-index l.objects)
