use Rattle.std.proofs.Common.{◌≡◌, map}
use Rattle.std.specs.List.{range_with_len}
use Rattle.load_calls.specs.Refreshing.{found_at}
use Rattle.load_calls.proofs.refreshing.found_among.Given as goal

abbrev pub invariant-loop-place : goal.invariant-loop-place
invariant-loop-place l = l.found ≡ map (found_at l.attrs l.values) (range_with_len 0 l.place)
