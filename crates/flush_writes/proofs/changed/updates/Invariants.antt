use Rattle.std.proofs.Common.{◌≡◌, map, take}
use Rattle.std.specs.Prelude.{slice_index_or}
use Rattle.flush_writes.specs.Writes.{no_changed, updates_to}
use Rattle.flush_writes.proofs.changed.updates.Given as goal

abbrev pub invariant-loop-number : goal.invariant-loop-number
invariant-loop-number l = l.statements.items ≡ updates_to l.schema l.changes (map (λ number. slice_index_or l.changes.changed number no_changed) (take l.number-index l.number-items))
