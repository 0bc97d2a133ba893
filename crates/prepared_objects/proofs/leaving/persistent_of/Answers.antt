use Rattle.std.proofs.Common.{take}
use Rattle.object_arena.specs.Graph.{is_persistent, object_at}
use Rattle.prepared_objects.proofs.Parts.{part_made, part_persistent}
use Rattle.prepared_objects.proofs.leaving.persistent_of.Goals as goal

pub returns-clause-made : goal.returns-clause-made
returns-clause-made c = part_made c.args.arena.now (λ object. is_persistent (object_at c.args.arena.now object).state) c.loop-object.kept c.args.objects.now c.loop-object.object-index c.loop-object.invariant c.requires

pub returns-clause-persistent : goal.returns-clause-persistent
returns-clause-persistent c = part_persistent c.args.arena.now c.loop-object.kept (take c.loop-object.object-index c.args.objects.now) c.loop-object.invariant
