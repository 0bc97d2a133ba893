use Rattle.std.proofs.Common.{◌∙◌, length, ap, sym}
use Rattle.object_arena.specs.declared.object.Object.{Object}
use Rattle.object_arena.specs.Graph.{object_at}
use Rattle.object_records.specs.Way.{stood, with_own_marks}
use Rattle.object_records.proofs.PutSteps.{at_after, made_after, record_whole, with_cells}
use Rattle.object_records.proofs.StateSteps.{stood_cells, stood_links}
use Rattle.object_records.proofs.puts.put_record.Goals as goal

pub put_marks-requires : goal.put_marks-requires
put_marks-requires c = made_after c.args.arena.now c.put_state.new.arena c.args.object (stood c.args.new.state c.args.new.identity (object_at c.args.arena.now c.args.object)) c.put_state.ensures c.requires.object

pub put_cells-requires-clause-object : goal.put_cells-requires-clause-object
put_cells-requires-clause-object c =
    let first : Object = stood c.args.new.state c.args.new.identity (object_at c.args.arena.now c.args.object) in
    let made = made_after c.args.arena.now c.put_state.new.arena c.args.object first c.put_state.ensures c.requires.object in
    made_after c.put_state.new.arena c.put_marks.new.self c.args.object (with_own_marks c.args.new.added c.args.new.marked c.args.new.orphan (object_at c.put_state.new.arena c.args.object)) c.put_marks.ensures.put made

pub put_cells-requires-clause-long : goal.put_cells-requires-clause-long
put_cells-requires-clause-long c =
    let first : Object = stood c.args.new.state c.args.new.identity (object_at c.args.arena.now c.args.object) in
    let made = made_after c.args.arena.now c.put_state.new.arena c.args.object first c.put_state.ensures c.requires.object in
    let one = at_after c.args.arena.now c.put_state.new.arena c.args.object first c.put_state.ensures c.requires.object in
    let two = at_after c.put_state.new.arena c.put_marks.new.self c.args.object (with_own_marks c.args.new.added c.args.new.marked c.args.new.orphan (object_at c.put_state.new.arena c.args.object)) c.put_marks.ensures.put made in
    c.requires.replaces.cells
    ∙ sym (stood_cells c.args.new.state c.args.new.identity (object_at c.args.arena.now c.args.object))
    ∙ sym (ap (λ (o : Object). length o.cells) one)
    ∙ sym (ap (λ (o : Object). length o.cells) two)

pub put_links-requires-clause-object : goal.put_links-requires-clause-object
put_links-requires-clause-object c =
    let first : Object = stood c.args.new.state c.args.new.identity (object_at c.args.arena.now c.args.object) in
    let made = made_after c.args.arena.now c.put_state.new.arena c.args.object first c.put_state.ensures c.requires.object in
    let marked = made_after c.put_state.new.arena c.put_marks.new.self c.args.object (with_own_marks c.args.new.added c.args.new.marked c.args.new.orphan (object_at c.put_state.new.arena c.args.object)) c.put_marks.ensures.put made in
    made_after c.put_marks.new.self c.put_cells.new.arena c.args.object (with_cells (object_at c.put_marks.new.self c.args.object) c.args.new.cells) c.put_cells.ensures marked

pub put_links-requires-clause-long : goal.put_links-requires-clause-long
put_links-requires-clause-long c =
    let first : Object = stood c.args.new.state c.args.new.identity (object_at c.args.arena.now c.args.object) in
    let made = made_after c.args.arena.now c.put_state.new.arena c.args.object first c.put_state.ensures c.requires.object in
    let marked = made_after c.put_state.new.arena c.put_marks.new.self c.args.object (with_own_marks c.args.new.added c.args.new.marked c.args.new.orphan (object_at c.put_state.new.arena c.args.object)) c.put_marks.ensures.put made in
    let one = at_after c.args.arena.now c.put_state.new.arena c.args.object first c.put_state.ensures c.requires.object in
    let two = at_after c.put_state.new.arena c.put_marks.new.self c.args.object (with_own_marks c.args.new.added c.args.new.marked c.args.new.orphan (object_at c.put_state.new.arena c.args.object)) c.put_marks.ensures.put made in
    let three = at_after c.put_marks.new.self c.put_cells.new.arena c.args.object (with_cells (object_at c.put_marks.new.self c.args.object) c.args.new.cells) c.put_cells.ensures marked in
    c.requires.replaces.links
    ∙ sym (stood_links c.args.new.state c.args.new.identity (object_at c.args.arena.now c.args.object))
    ∙ sym (ap (λ (o : Object). length o.links) one)
    ∙ sym (ap (λ (o : Object). length o.links) two)
    ∙ sym (ap (λ (o : Object). length o.links) three)

pub returns : goal.returns
returns c =
    record_whole c.args.arena.now c.put_state.new.arena c.put_marks.new.self c.put_cells.new.arena c.put_links.new.arena c.args.object c.args.new c.requires.object c.requires.replaces.class
    c.put_state.ensures c.put_marks.ensures.put c.put_cells.ensures c.put_links.ensures
