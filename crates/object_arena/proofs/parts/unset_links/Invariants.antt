use Rattle.std.proofs.Common.{◌≡◌, map, take}
use Rattle.object_arena.specs.declared.object.Link.TheVariants.{Unset}
use Rattle.object_arena.proofs.parts.unset_links.Given as goal

abbrev pub invariant-loop-relation : goal.invariant-loop-relation
invariant-loop-relation l = l.links ≡ map (λ relation. Unset) (take l._relation-index l.relations)
