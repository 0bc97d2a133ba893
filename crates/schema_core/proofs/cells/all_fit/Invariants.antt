use Rattle.std.proofs.Common.{◌≡◌, ◌≤◌, drop, length}
use Rattle.std.specs.Cmp.Lexicographic.{pointwise}
use Rattle.schema_core.specs.Tables.{fits}
use Rattle.schema_core.proofs.cells.all_fit.Given as goal

abbrev pub invariant-loop-place : goal.invariant-loop-place
invariant-loop-place l = (l.place ≤ length l.row) × (pointwise fits (drop l.place l.columns) (drop l.place l.row) ≡ pointwise fits l.columns l.row)
