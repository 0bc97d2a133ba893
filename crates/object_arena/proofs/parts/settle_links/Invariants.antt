use Rattle.std.proofs.Common.{◌≡◌, ◌++◌, map, take, drop}
use Rattle.object_arena.specs.Graph.{settled_link}
use Rattle.object_arena.proofs.parts.settle_links.Given as goal

abbrev pub invariant-loop-place : goal.invariant-loop-place
invariant-loop-place l = l.links ≡ map (settled_link) (take l.place l.fn.links) ++ drop l.place l.fn.links
