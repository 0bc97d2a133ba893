use Rattle.object_arena.specs.Graph.{object_at}
use Rattle.object_records.proofs.Differing.{orphan_differs}
use Rattle.object_records.proofs.touched.touch_for_orphan.Goals as goal

pub returns-clause-ok : goal.returns-clause-ok
returns-clause-ok c =
    c.touch_if.ensures.ok (record (object_at c.args.arena.now c.args.object) { orphan = c.args.orphan })
    (orphan_differs (object_at c.args.arena.now c.args.object) c.object.result.now c.args.orphan c.same_bool-is_same.result c.object.ensures.is c.same_bool-is_same.ensures)
