use Rattle.std.proofs.Common.{◌≡◌, drop}
use Rattle.std.specs.List.{list_all}
use Rattle.flush_writes.specs.Runs.{goes_with}
use Rattle.flush_writes.proofs.runs.goes_with_all.Given as goal

abbrev pub invariant-loop-other : goal.invariant-loop-other
invariant-loop-other l = list_all (goes_with l.new.schema.now l.new.changes.now l.row) (drop l.other-index l.run) ≡ list_all (goes_with l.new.schema.now l.new.changes.now l.row) l.run
