use Rattle.std.proofs.Common.{◌∙◌, ◌<◌, List, length, ap, arith}
use Rattle.std.specs.Prelude.{slice_set}
use Rattle.object_arena.specs.declared.object.Cell.{Cell}
use Rattle.object_arena.specs.Graph.{expired_cell, settled_cell}
use Rattle.object_arena.proofs.PartLemmas.{write_over, set_twice}
use Rattle.object_arena.proofs.parts.settle_cells.Goals as goal

pub loop-place-preserved : goal.loop-place-preserved
loop-place-preserved c =
    let less : c.loop-place.place < length c.args.cells.now = omega arith in
    write_over settled_cell c.args.cells.now c.loop-place.cells c.replace-none.new.self c.loop-place.place c.replace-old.result less
    c.loop-place.invariant c.replace-old.ensures.before
    (c.replace-none.ensures.list
    ∙ ap (λ (cells : List Cell). slice_set cells c.loop-place.place c.settle_cell.result) c.replace-old.ensures.list
    ∙ set_twice c.loop-place.cells c.loop-place.place expired_cell c.settle_cell.result
    ∙ ap (λ (cell : Cell). slice_set c.loop-place.cells c.loop-place.place cell) c.settle_cell.ensures)
