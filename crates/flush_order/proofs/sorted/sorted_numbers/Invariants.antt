use Rattle.std.proofs.Common.{◌≡◌, drop, []}
use Rattle.flush_order.specs.Sorted.{entries_with_places}
use Rattle.flush_order.proofs.sorted.sorted_numbers.Given as goal

abbrev pub invariant-loop-number : goal.invariant-loop-number
invariant-loop-number l = entries_with_places l.entries.entries l.number (drop l.number l.places) ≡ entries_with_places [] 0 l.places
