use Rattle.std.proofs.Common.{List, sym, subst}
use Rattle.std.specs.List.{All}
use Rattle.base_core.specs.declared.ids.ObjId.{ObjId}
use Rattle.object_arena.specs.Graph.{IsObject, object_at}
use Rattle.prepared_objects.specs.Leaving.{is_new_orphan}
use Rattle.prepared_objects.proofs.Parts.{part_made}
use Rattle.prepared_objects.proofs.leaving.new_orphans.Goals as goal

pub returns-clause-made : goal.returns-clause-made
returns-clause-made c =
    part_made c.args.arena.now (λ object. is_new_orphan (object_at c.args.arena.now object)) c.loop-object.starts c.deref-object-items.result.now c.loop-object.object-index c.loop-object.invariant
    (subst (λ (objects : List ObjId). All (IsObject c.args.arena.now) objects) (sym c.deref-object-items.ensures.value) c.in_ok-objects.ensures.made)
