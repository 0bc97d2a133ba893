use Rattle.std.proofs.Common.{◌≡◌, Some, ap, sym, ◌∙◌}
use Rattle.std.specs.Prelude.{slice_get}
use Rattle.object_arena.specs.declared.object.Object.{Object}
use Rattle.object_arena.specs.Graph.{cell_at, cell_put, object_at}
use Rattle.object_records.proofs.Differing.{value_differs}
use Rattle.object_records.proofs.touched.touch_for_value.Goals as goal

pub returns-clause-ok : goal.returns-clause-ok
returns-clause-ok c =
    let graph = c.args.arena.now in
    let read : slice_get (object_at graph c.args.object).cells c.args.attr.0 ≡ Some c.at.result.now =
    ap (λ (o : Object). slice_get o.cells c.args.attr.0) (sym c.object.ensures.is) ∙ c.at.ensures in
    c.touch_if.ensures.ok (cell_put (object_at graph c.args.object) c.args.attr (record (cell_at graph c.args.object c.args.attr) { value = Some c.args.value.now }))
    (value_differs (object_at graph c.args.object) c.args.attr c.args.value.now c.at.result.now c.holds-is_held.result c.requires.attr read c.holds-is_held.ensures)
