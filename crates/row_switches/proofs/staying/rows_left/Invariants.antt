use Rattle.std.proofs.Common.{◌≡◌, ◌++◌, drop}
use Rattle.std.specs.List.{enumerate_from, filter_map}
use Rattle.row_switches.specs.Switch.{row_left}
use Rattle.row_switches.proofs.staying.rows_left.Given as goal

abbrev pub invariant-loop-number : goal.invariant-loop-number
invariant-loop-number l = l.rows ++ filter_map (row_left l.partners) (enumerate_from l.number (drop l.number l.gone)) ≡ filter_map (row_left l.partners) (enumerate_from 0 l.gone)
