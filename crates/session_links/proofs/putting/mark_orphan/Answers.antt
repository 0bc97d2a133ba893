use Rattle.std.proofs.Common.{sym, ap, ◌∙◌}
use Rattle.object_arena.specs.Graph.{Graph}
use Rattle.object_records.specs.Touched.{frames_touched_between}
use Rattle.session_links.proofs.putting.mark_orphan.Goals as goal

pub returns-clause-touched : goal.returns-clause-touched
returns-clause-touched c = c.in_ok-touch_for_orphan.ensures.ok ∙ ap (λ (g : Graph). frames_touched_between c.args.arena.now g c.args.frames.now) (sym c.put_orphan.ensures.put)

pub returns-clause-keeps : goal.returns-clause-keeps
returns-clause-keeps c = c.put_orphan.ensures.keeps.fits
