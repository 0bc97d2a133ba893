use Rattle.std.proofs.Common.{◌≡◌, drop, is_some}
use Rattle.std.specs.List.{list_any}
use Rattle.row_switches.proofs.changes.is_some_switched.Given as goal

abbrev pub invariant-loop-partner : goal.invariant-loop-partner
invariant-loop-partner l = list_any is_some (drop l.partner-index l.partners) ≡ list_any is_some l.partners
