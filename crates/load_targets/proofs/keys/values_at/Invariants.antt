use Rattle.std.proofs.Common.{◌≡◌, map, take}
use Rattle.load_targets.specs.ForeignKeys.{value_at}
use Rattle.load_targets.proofs.keys.values_at.Given as goal

abbrev pub invariant-loop-attr : goal.invariant-loop-attr
invariant-loop-attr l = l.values ≡ map (value_at l.object) (take l.attr-index l.attrs)
