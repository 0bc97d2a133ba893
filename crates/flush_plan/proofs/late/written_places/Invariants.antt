use Rattle.std.proofs.Common.{◌≡◌, map, take}
use Rattle.flush_plan.proofs.late.written_places.Given as goal

abbrev pub invariant-loop-row : goal.invariant-loop-row
invariant-loop-row l = l.places.items ≡ map (λ row. row.0) (take l.row-index l.writings)
