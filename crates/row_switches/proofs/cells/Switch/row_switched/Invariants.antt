use Rattle.std.proofs.Common.{◌≡◌, ◌++◌, drop}
use Rattle.std.specs.List.{enumerate_from, filter_map}
use Rattle.row_switches.specs.Switch.{cell_switched}
use Rattle.row_switches.proofs.cells.Switch.row_switched.Given as goal

abbrev pub invariant-loop-number : goal.invariant-loop-number
invariant-loop-number l =
    l.cells ++ filter_map (cell_switched l.self.mapping.now l.self.arena.now l.self.new.now.changes.now l.self.partners.now l.row l.gone) (enumerate_from l.number (drop l.number l.columns))
    ≡ filter_map (cell_switched l.self.mapping.now l.self.arena.now l.self.new.now.changes.now l.self.partners.now l.row l.gone) (enumerate_from 0 l.columns)
