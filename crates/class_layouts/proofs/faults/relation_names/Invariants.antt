use Rattle.std.proofs.Common.{◌≡◌, ◌++◌, map, drop}
use Rattle.std.specs.List.{flat_map}
use Rattle.class_layouts.specs.Hierarchy.{relations_at}
use Rattle.class_layouts.proofs.faults.relation_names.Given as goal

abbrev pub invariant-loop-class : goal.invariant-loop-class
invariant-loop-class l =
    l.names ++ flat_map (λ class. map (λ relation. relation.name) (relations_at l.classes class.0)) (drop l.class-index l.line)
    ≡ flat_map (λ class. map (λ relation. relation.name) (relations_at l.classes class.0)) l.line
