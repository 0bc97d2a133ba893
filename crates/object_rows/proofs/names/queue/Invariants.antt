use Rattle.std.proofs.Common.{◌≡◌, [], fold, drop}
use Rattle.object_rows.specs.Seen.{with_queued}
use Rattle.object_rows.proofs.names.queue.Given as goal

abbrev pub invariant-loop-object : goal.invariant-loop-object
invariant-loop-object l =
    fold (with_queued l.arena l.prepared) l.queue.entries (drop l.object-index l.object-items) ≡ fold (with_queued l.arena l.prepared) [] l.object-items
