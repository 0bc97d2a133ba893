use Rattle.std.proofs.Common.{◌≡◌, ◌+◌, ◌-◌, ◌++◌}
use Rattle.std.specs.List.{flat_map, range_with_len}
use Rattle.load_columns.specs.Placing.{key_at_rank}
use Rattle.main_selects.proofs.options.push_further_keys.Given as goal

abbrev pub invariant-loop-below : goal.invariant-loop-below
invariant-loop-below l =
    l.out ++ flat_map (key_at_rank l.mapping l.class l.placement) (range_with_len (l.below + 1) (l.count - l.below))
    ≡ l.fn.out ++ flat_map (key_at_rank l.mapping l.class l.placement) (range_with_len 1 l.count)
