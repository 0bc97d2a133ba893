use Rattle.std.proofs.Common.{◌≡◌, Some, arith, rules}
use Rattle.std.specs.Prelude.{slice_get}
use Rattle.object_arena.specs.declared.object.Link.TheVariants.{Unloaded, One}
use Rattle.relations.specs.Parents.{old_parent, parent_by_cells}
use Rattle.relations.proofs.EndLemmas.{if_ok_same, led_made, parent_unloaded}
use Rattle.relations.proofs.parents.parent_before.Goals as goal

pub returns-in-Some-One-clause-made : goal.returns-in-Some-One-clause-made
returns-in-Some-One-clause-made c =
    let found : slice_get c.object-record.result.now.links c.args.place.0 ≡ Some (One c.in-Some-One.end c.in-Some-One.field-0-1) = first_of (search rules, grind arith) in
    led_made c.args.mapping.now c.args.arena.now c.object-record.result.now c.args.place.0 c.in-Some-One.end c.in-Some-One.field-0-1 c.requires.fit (c.object-record.ensures.links c.args.mapping.now c.requires.fit) found

pub returns-in-Some-Unloaded-clause-parent : goal.returns-in-Some-Unloaded-clause-parent
returns-in-Some-Unloaded-clause-parent c =
    let found : slice_get c.object-record.result.now.links c.args.place.0 ≡ Some (Unloaded c.in-Some-Unloaded.field-0-0 c.in-Some-Unloaded.field-0-1) = first_of (search rules, grind arith) in
    if_ok_same c.parent_by_cells.result (parent_by_cells c.args.arena.now c.args.mapping.now c.object-record.result.now c.args.relation.now) (old_parent c.args.arena.now c.args.mapping.now c.args.child c.args.place c.args.relation.now)
    (parent_unloaded c.args.arena.now c.args.mapping.now c.args.child c.args.place c.args.relation.now c.object-record.result.now c.in-Some-Unloaded.field-0-0 c.in-Some-Unloaded.field-0-1 c.object-record.ensures.is found)
    c.parent_by_cells.ensures.parent
