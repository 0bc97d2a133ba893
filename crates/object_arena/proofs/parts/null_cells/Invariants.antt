use Rattle.std.proofs.Common.{◌≡◌, map, take}
use Rattle.object_arena.specs.Graph.{null_cell}
use Rattle.object_arena.proofs.parts.null_cells.Given as goal

abbrev pub invariant-loop-attribute : goal.invariant-loop-attribute
invariant-loop-attribute l = l.cells ≡ map (λ attribute. null_cell) (take l._attribute-index l.attributes)
