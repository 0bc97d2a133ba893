use Rattle.std.proofs.Common.{◌≡◌, ◌++◌, drop}
use Rattle.std.specs.List.{flat_map}
use Rattle.alias_names.specs.Names.{exists_names}
use Rattle.alias_names.proofs.names.push_order_names.Given as goal

abbrev pub invariant-loop-key : goal.invariant-loop-key
invariant-loop-key l =
    l.out ++ flat_map (λ key. exists_names l.mapping.schema key.0) (drop l.key-index l.order)
    ≡ l.fn.out ++ flat_map (λ key. exists_names l.mapping.schema key.0) l.order
