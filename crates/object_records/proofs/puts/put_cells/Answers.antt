use Rattle.std.proofs.Common.{◌≡◌, ℕ, ◌<◌, ◌∙◌, List, None, length, get_or, ap, subst}
use Rattle.std.proofs.lemmas.List.{length-set}
use Rattle.object_arena.specs.declared.object.Cell.{Cell}
use Rattle.object_arena.specs.Graph.{expired_cell, object_at}
use Rattle.object_records.proofs.PutSteps.{cells_more, cells_there, left_more, left_taken, made_after, mixed, with_cells}
use Rattle.object_records.proofs.puts.put_cells.Goals as goal

pub put_cell-requires-clause-object : goal.put_cell-requires-clause-object
put_cell-requires-clause-object c =
    made_after c.args.arena.now c.loop-place.arena c.args.object (with_cells (object_at c.args.arena.now c.args.object) (mixed c.args.cells (object_at c.args.arena.now c.args.object).cells c.loop-place.place)) c.loop-place.invariant.0 c.requires.object

pub put_cell-requires-clause-within : goal.put_cell-requires-clause-within
put_cell-requires-clause-within c =
    let less : c.loop-place.place < length c.args.cells = subst (λ (n : ℕ). c.loop-place.place < n) c.len-place-end.ensures c.loop-place-test.true in
    let there = cells_there c.args.arena.now c.loop-place.arena c.args.object c.args.cells c.loop-place.place c.requires.object c.requires.long c.loop-place.invariant.0 in
    rw there less

pub loop-place-preserved : goal.loop-place-preserved
loop-place-preserved c =
    let hole : Cell = record { value = None; base = None } in
    let less : c.loop-place.place < length c.args.cells = subst (λ (n : ℕ). c.loop-place.place < n) c.len-place-end.ensures c.loop-place-test.true in
    let taken : c.replace-cell.result ≡ get_or c.args.cells c.loop-place.place expired_cell = left_taken expired_cell c.replace-cell.result c.args.cells c.loop-place.cells c.loop-place.place c.replace-cell.ensures.before c.loop-place.invariant.1 in (
      cells_more c.args.arena.now c.loop-place.arena c.put_cell.new.arena c.args.object c.args.cells c.replace-cell.result expired_cell c.loop-place.place c.requires.object c.requires.long less taken c.loop-place.invariant.0 c.put_cell.ensures,
      left_more expired_cell hole c.args.cells c.loop-place.cells c.replace-cell.new.self c.loop-place.place c.replace-cell.ensures.list c.loop-place.invariant.1,
      ap (λ (xs : List Cell). length xs) c.replace-cell.ensures.list ∙ length-set c.loop-place.cells c.loop-place.place hole ∙ c.loop-place.invariant.2,
    )
