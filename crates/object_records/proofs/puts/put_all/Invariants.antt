use Rattle.std.proofs.Common.{◌≡◌, None, length}
use Rattle.object_records.specs.Records.{with_records}
use Rattle.object_records.specs.Way.{HoldNoMore}
use Rattle.object_records.proofs.PutSteps.{AreLeft, records_before}
use Rattle.object_records.proofs.puts.put_all.Given as goal

abbrev pub invariant-loop-number : goal.invariant-loop-number
invariant-loop-number l =
    (l.arena ≡ records_before l.fn.records l.fn.arena l.number) × AreLeft None l.fn.records l.records l.number × (length l.records ≡ length l.fn.records) × HoldNoMore l.arena (with_records l.fn.arena l.fn.records).objects
