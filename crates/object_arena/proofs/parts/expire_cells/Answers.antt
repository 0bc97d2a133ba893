use Rattle.std.proofs.Common.{◌<◌, length, arith}
use Rattle.object_arena.specs.declared.object.Cell.{Cell}
use Rattle.object_arena.specs.Graph.{expired_cell}
use Rattle.object_arena.proofs.PartLemmas.{write_over}
use Rattle.object_arena.proofs.parts.expire_cells.Goals as goal

pub loop-place-preserved : goal.loop-place-preserved
loop-place-preserved c =
    let less : c.loop-place.place < length c.args.cells.now = omega arith in
    write_over (λ (cell : Cell). expired_cell) c.args.cells.now c.loop-place.cells c.replace-old.new.self c.loop-place.place c.replace-old.result less
    c.loop-place.invariant c.replace-old.ensures.before c.replace-old.ensures.list
