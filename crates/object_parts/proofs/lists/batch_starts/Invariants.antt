use Rattle.std.proofs.Common.{◌≡◌, ◌*◌, map}
use Rattle.std.specs.List.{range_with_len}
use Rattle.object_parts.specs.Lists.{batch_size}
use Rattle.object_parts.proofs.lists.batch_starts.Given as goal

abbrev pub invariant-loop-number : goal.invariant-loop-number
invariant-loop-number l = l.starts.items ≡ map (λ number. batch_size * number) (range_with_len 0 l.number)
