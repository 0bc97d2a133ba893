use Rattle.std.proofs.Common.{◌≡◌, ◌++◌, drop}
use Rattle.std.specs.List.{enumerate_from, filter_map}
use Rattle.row_switches.specs.Switch.{switch_of}
use Rattle.row_switches.proofs.cells.Switch.push_rows_switched.Given as goal

abbrev pub invariant-loop-place : goal.invariant-loop-place
invariant-loop-place l =
    l.out ++ filter_map (switch_of l.self.mapping.now l.self.arena.now l.self.new.now.changes.now l.self.partners.now) (enumerate_from l.place (drop l.place l.fresh))
    ≡ l.fn.out ++ filter_map (switch_of l.self.mapping.now l.self.arena.now l.self.new.now.changes.now l.self.partners.now) (enumerate_from 0 l.fresh)
