use Rattle.std.proofs.Common.{◌≡◌, ◌++◌, drop}
use Rattle.std.specs.List.{enumerate_from, filter_map}
use Rattle.row_switches.specs.Switch.{row_staying}
use Rattle.row_switches.proofs.cells.Switch.rows_staying.Given as goal

abbrev pub invariant-loop-place : goal.invariant-loop-place
invariant-loop-place l =
    l.rows ++ filter_map (row_staying l.self.new.now.schema.now l.self.new.now.changes.now l.self.partners.now) (enumerate_from l.place (drop l.place l.fresh))
    ≡ filter_map (row_staying l.self.new.now.schema.now l.self.new.now.changes.now l.self.partners.now) (enumerate_from 0 l.fresh)
