use Rattle.std.proofs.Common.{◌≡◌, take}
use Rattle.object_rows.specs.Seen.{object_ids}
use Rattle.object_rows.proofs.names.object_ids.Given as goal

abbrev pub invariant-loop-number : goal.invariant-loop-number
invariant-loop-number l = l.ids.items ≡ take l.number (object_ids l.arena)
