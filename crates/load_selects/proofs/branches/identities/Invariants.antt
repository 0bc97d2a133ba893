use Rattle.std.proofs.Common.{◌≡◌, ◌++◌, drop}
use Rattle.std.specs.List.{filter_map}
use Rattle.class_mapping.specs.Mapped.{class_spec}
use Rattle.load_selects.proofs.branches.identities.Given as goal

abbrev pub invariant-loop-other : goal.invariant-loop-other
invariant-loop-other l =
    l.values ++ filter_map (λ other. (class_spec l.mapping other).identity) (drop l.other-index l.other-items)
    ≡ filter_map (λ other. (class_spec l.mapping other).identity) l.other-items
