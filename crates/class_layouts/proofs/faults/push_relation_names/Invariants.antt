use Rattle.std.proofs.Common.{◌≡◌, ◌++◌, map, take}
use Rattle.class_layouts.proofs.faults.push_relation_names.Given as goal

abbrev pub invariant-loop-relation : goal.invariant-loop-relation
invariant-loop-relation l = l.names ≡ l.initial.names ++ map (λ relation. relation.name) (take l.relation-index l.relations)
