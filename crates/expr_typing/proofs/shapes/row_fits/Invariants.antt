use Rattle.std.proofs.Common.{◌≡◌, ◌≤◌, drop, length}
use Rattle.std.specs.Cmp.Lexicographic.{pointwise}
use Rattle.expr_typing.specs.ItemShapes.{fits}
use Rattle.expr_typing.proofs.shapes.row_fits.Given as goal

abbrev pub invariant-loop-place : goal.invariant-loop-place
invariant-loop-place l = (l.place ≤ length l.row) × (pointwise fits (drop l.place l.shapes) (drop l.place l.row) ≡ pointwise fits l.shapes l.row)
