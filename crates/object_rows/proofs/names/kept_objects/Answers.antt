use Rattle.object_rows.specs.Seen.{keeps_rows}
use Rattle.object_rows.proofs.ObjectSteps.{kept_made}
use Rattle.object_rows.proofs.names.kept_objects.Goals as goal

pub returns-clause-made : goal.returns-clause-made
returns-clause-made c = kept_made c.args.arena.now (keeps_rows c.args.arena.now c.args.prepared.now) c.in_ok-objects.objects.items c.in_ok-objects.ensures
