use Rattle.std.proofs.Common.{◌≡◌, ◌++◌, map, take}
use Rattle.class_layouts.proofs.faults.push_attribute_names.Given as goal

abbrev pub invariant-loop-attribute : goal.invariant-loop-attribute
invariant-loop-attribute l = l.names ≡ l.initial.names ++ map (λ attribute. attribute.name) (take l.attribute-index l.attributes)
