use Rattle.std.proofs.Common.{◌≡◌, ◌++◌, [], map, take, drop}
use Rattle.object_arena.specs.declared.object.Link.TheVariants.{Unloaded}
use Rattle.object_arena.proofs.parts.unload_links.Given as goal

abbrev pub invariant-loop-place : goal.invariant-loop-place
invariant-loop-place l = l.links ≡ map (λ link. Unloaded [] []) (take l.place l.fn.links) ++ drop l.place l.fn.links
