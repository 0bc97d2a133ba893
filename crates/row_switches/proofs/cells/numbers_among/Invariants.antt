use Rattle.std.proofs.Common.{◌≡◌, ◌≤◌, ◌++◌, drop}
use Rattle.row_switches.specs.Switch.{numbers_from}
use Rattle.row_switches.proofs.cells.numbers_among.Given as goal

abbrev pub invariant-loop-partner : goal.invariant-loop-partner
invariant-loop-partner l = record {
  numbers : l.numbers.items ++ numbers_from l.count (drop l.partner-index l.partners) ≡ numbers_from 0 l.partners;
  few : l.count ≤ l.partner-index;
}
