use Rattle.std.proofs.Common.{◌≡◌, take}
use Rattle.flush_writes.specs.Writes.{removes}
use Rattle.flush_writes.proofs.deletes.removes.Given as goal

abbrev pub invariant-loop-place : goal.invariant-loop-place
invariant-loop-place l = l.statements.items ≡ removes l.gone.schema.now l.gone.changes.now (take l.place-index l.order)
