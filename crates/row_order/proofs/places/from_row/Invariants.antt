use Rattle.std.proofs.Common.{◌≡◌, drop}
use Rattle.row_order.specs.Places.{from_row}
use Rattle.row_order.proofs.places.from_row.Given as goal

abbrev pub invariant-loop-place : goal.invariant-loop-place
invariant-loop-place l = from_row l.row (drop l.place l.path) ≡ from_row l.row l.path
