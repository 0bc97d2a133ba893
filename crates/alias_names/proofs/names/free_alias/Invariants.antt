use Rattle.std.proofs.Common.{◌≡◌, ◌+◌, ◌-◌, length}
use Rattle.std.specs.Prelude.{find}
use Rattle.std.specs.List.{range_with_len}
use Rattle.alias_names.specs.Names.{is_free}
use Rattle.alias_names.proofs.names.free_alias.Given as goal

abbrev pub invariant-loop-below : goal.invariant-loop-below
invariant-loop-below l =
    find (is_free l.taken l.name) (range_with_len (l.below + 1) (length l.taken - l.below))
    ≡ find (is_free l.taken l.name) (range_with_len 1 (length l.taken))
