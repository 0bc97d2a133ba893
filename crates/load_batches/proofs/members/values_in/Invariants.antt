use Rattle.std.proofs.Common.{◌≡◌, map, take}
use Rattle.load_filling.specs.Rows.{value_in}
use Rattle.load_batches.proofs.members.values_in.Given as goal

abbrev pub invariant-loop-attr : goal.invariant-loop-attr
invariant-loop-attr l = l.values ≡ map (value_in l.row) (take l.attr-index l.attrs)
