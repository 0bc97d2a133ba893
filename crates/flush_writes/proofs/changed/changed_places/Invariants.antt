use Rattle.std.proofs.Common.{◌≡◌, map, take}
use Rattle.flush_writes.specs.Writes.{place_of_changed}
use Rattle.flush_writes.proofs.changed.changed_places.Given as goal

abbrev pub invariant-loop-row : goal.invariant-loop-row
invariant-loop-row l = l.places.items ≡ map place_of_changed (take l.row-index l.changes.changed)
