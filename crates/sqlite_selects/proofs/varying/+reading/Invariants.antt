use Rattle.std.proofs.Common.{◌≡◌, map, drop}
use Rattle.std.specs.List.{list_any}
use Rattle.sqlite_selects.specs.Varying.{reads_rows}
use Rattle.sqlite_selects.proofs.varying.+reading.Given as goal

abbrev pub invariant-some_reads-loop-e : goal.invariant-some_reads-loop-e
invariant-some_reads-loop-e l = list_any (λ reads. reads) (map reads_rows (drop l.e-index l.es)) ≡ list_any (λ reads. reads) (map reads_rows l.es)
