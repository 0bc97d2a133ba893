use Rattle.std.proofs.Common.{true}
use Rattle.object_arena.specs.Graph.{object_at}
use Rattle.object_records.proofs.Differing.{mark_differs}
use Rattle.object_records.proofs.touched.touch_for_mark.Goals as goal

pub returns-clause-ok : goal.returns-clause-ok
returns-clause-ok c =
    c.touch_if.ensures.ok (record (object_at c.args.arena.now c.args.object) { marked = true })
    (mark_differs (object_at c.args.arena.now c.args.object) c.object.result.now c.object.ensures.is)
