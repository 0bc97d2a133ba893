use Rattle.std.proofs.Common.{◌≡◌, ◌++◌, map, take, drop}
use Rattle.object_arena.specs.Graph.{settled_cell}
use Rattle.object_arena.proofs.parts.settle_cells.Given as goal

abbrev pub invariant-loop-place : goal.invariant-loop-place
invariant-loop-place l = l.cells ≡ map (settled_cell) (take l.place l.fn.cells) ++ drop l.place l.fn.cells
