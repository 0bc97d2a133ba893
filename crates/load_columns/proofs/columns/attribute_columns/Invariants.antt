use Rattle.std.proofs.Common.{◌≡◌, map, take}
use Rattle.load_columns.specs.Placing.{attribute_column}
use Rattle.load_columns.proofs.columns.attribute_columns.Given as goal

abbrev pub invariant-loop-attribute : goal.invariant-loop-attribute
invariant-loop-attribute l = l.columns ≡ map (attribute_column l.mapping l.class l.placement) (take l.attribute-index l.attributes)
