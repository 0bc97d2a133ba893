use Rattle.std.proofs.Common.{◌≡◌, Some, ap, sym, ◌∙◌}
use Rattle.std.specs.Prelude.{slice_get, slice_set}
use Rattle.object_arena.specs.declared.object.Object.{Object}
use Rattle.object_arena.specs.Graph.{object_at}
use Rattle.object_records.proofs.Differing.{link_differs}
use Rattle.object_records.proofs.touched.touch_for_link.Goals as goal

pub returns-clause-ok : goal.returns-clause-ok
returns-clause-ok c =
    let old : Object = object_at c.args.arena.now c.args.object in
    let read : slice_get old.links c.args.relation.0 ≡ Some c.at.result.now =
    ap (λ (o : Object). slice_get o.links c.args.relation.0) (sym c.object.ensures.is) ∙ c.at.ensures in
    c.touch_if.ensures.ok (record old { links = slice_set old.links c.args.relation.0 c.args.link.now })
    (link_differs old c.args.relation c.args.link.now c.at.result.now c.same_link-is_same.result c.requires.relation read c.same_link-is_same.ensures)
