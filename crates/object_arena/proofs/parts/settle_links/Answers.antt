use Rattle.std.proofs.Common.{◌∙◌, ◌<◌, List, length, ap, arith}
use Rattle.std.specs.Prelude.{slice_set}
use Rattle.object_arena.specs.declared.object.Link.{Link}
use Rattle.object_arena.specs.declared.object.Link.TheVariants.{Unset}
use Rattle.object_arena.specs.Graph.{settled_link}
use Rattle.object_arena.proofs.PartLemmas.{write_over, set_twice}
use Rattle.object_arena.proofs.parts.settle_links.Goals as goal

pub loop-place-preserved : goal.loop-place-preserved
loop-place-preserved c =
    let less : c.loop-place.place < length c.args.links.now = omega arith in
    write_over settled_link c.args.links.now c.loop-place.links c.replace-none.new.self c.loop-place.place c.replace-old.result less
    c.loop-place.invariant c.replace-old.ensures.before
    (c.replace-none.ensures.list
    ∙ ap (λ (links : List Link). slice_set links c.loop-place.place c.settle_link.result) c.replace-old.ensures.list
    ∙ set_twice c.loop-place.links c.loop-place.place Unset c.settle_link.result
    ∙ ap (λ (link : Link). slice_set c.loop-place.links c.loop-place.place link) c.settle_link.ensures)
