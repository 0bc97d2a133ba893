use Rattle.std.proofs.Common.{◌≡◌, ◌++◌, drop, filter, map}
use Rattle.std.specs.List.{enumerate_from}
use Rattle.load_calls.specs.Refreshing.{attr_of, is_expired}
use Rattle.load_calls.proofs.refreshing.expired_attrs.Given as goal

abbrev pub invariant-loop-place : goal.invariant-loop-place
invariant-loop-place l =
    l.out ++ map attr_of (filter is_expired (enumerate_from l.place (drop l.place l.cells))) ≡ map attr_of (filter is_expired (enumerate_from 0 l.cells))
