use Rattle.std.proofs.Common.{◌≡◌, ◌++◌, map, take}
use Rattle.load_selects.specs.Selects.{item_of}
use Rattle.load_selects.proofs.selects.push_items.Given as goal

abbrev pub invariant-loop-column : goal.invariant-loop-column
invariant-loop-column l = l.out ≡ l.fn.out ++ map item_of (take l.column-index l.columns)
