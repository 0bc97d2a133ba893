use Rattle.std.proofs.Common.{◌≡◌, map, take}
use Rattle.load_rows.specs.Loading.{value_for}
use Rattle.load_rows.proofs.taking.found_in_row.Given as goal

abbrev pub invariant-loop-attribute : goal.invariant-loop-attribute
invariant-loop-attribute l = l.found ≡ map (value_for l.mapping l.class l.values) (take l.attribute-index l.attributes)
