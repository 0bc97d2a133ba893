use Rattle.std.proofs.Common.{◌<◌, [], length, arith}
use Rattle.object_arena.specs.declared.object.Link.{Link}
use Rattle.object_arena.specs.declared.object.Link.TheVariants.{Unloaded}
use Rattle.object_arena.proofs.PartLemmas.{write_over}
use Rattle.object_arena.proofs.parts.unload_links.Goals as goal

pub loop-place-preserved : goal.loop-place-preserved
loop-place-preserved c =
    let less : c.loop-place.place < length c.args.links.now = omega arith in
    write_over (λ (link : Link). Unloaded [] []) c.args.links.now c.loop-place.links c.replace-old.new.self c.loop-place.place c.replace-old.result less
    c.loop-place.invariant c.replace-old.ensures.before (rw (c.new.ensures, c.new-in-loop-place.ensures) at c.replace-old.ensures.list)
