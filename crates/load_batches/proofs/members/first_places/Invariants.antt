use Rattle.std.proofs.Common.{◌≡◌, map}
use Rattle.std.specs.List.{range_with_len}
use Rattle.load_batches.specs.Batches.{place_numbered}
use Rattle.load_batches.proofs.members.first_places.Given as goal

abbrev pub invariant-loop-number : goal.invariant-loop-number
invariant-loop-number l = l.places ≡ map place_numbered (range_with_len 0 l.number)
