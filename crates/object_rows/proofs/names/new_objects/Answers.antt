use Rattle.object_rows.proofs.ObjectSteps.{new_made}
use Rattle.object_rows.proofs.names.new_objects.Goals as goal

pub returns-clause-made : goal.returns-clause-made
returns-clause-made c = new_made c.args.arena.now c.args.prepared.now c.in_ok-objects.objects.items c.in_ok-objects.ensures
