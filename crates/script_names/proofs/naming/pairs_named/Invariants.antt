use Rattle.std.proofs.Common.{◌≡◌, ◌++◌, map, drop}
use Rattle.std.specs.List.{flat_map}
use Rattle.script_names.specs.Naming.{name_faults, named_expression}
use Rattle.script_names.proofs.naming.pairs_named.Given as goal

abbrev pub invariant-loop-item : goal.invariant-loop-item
invariant-loop-item g l = record {
  said : l.named ++ map (λ pair. (named_expression l.schema pair.0 l.scope, pair.1)) (drop l.item-index l.pairs) ≡ map (λ pair. (named_expression l.schema pair.0 l.scope, pair.1)) l.pairs;
  rest : flat_map (λ pair. name_faults l.schema pair.0 l.scope) (drop l.item-index l.pairs) ≡ flat_map (λ pair. name_faults l.schema pair.0 l.scope) l.pairs;
}
