use Rattle.std.proofs.Common.{◌≡◌, map, take}
use Rattle.load_filling.specs.Rows.{value_in}
use Rattle.load_filling.proofs.rows.row_key.Given as goal

abbrev pub invariant-loop-attr : goal.invariant-loop-attr
invariant-loop-attr l = l.key ≡ map (value_in l.values) (take l.attr-index l.attrs)
