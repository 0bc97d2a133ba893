use Rattle.row_project.specs.Warnings.{is_written}
use Rattle.object_rows.proofs.ObjectSteps.{kept_made}
use Rattle.row_project.proofs.outside.written_objects.Goals as goal

pub returns-clause-made : goal.returns-clause-made
returns-clause-made c = kept_made c.args.arena.now (is_written c.args.arena.now c.args.prepared.now) c.in_ok-objects.objects.items c.in_ok-objects.ensures
