use Rattle.std.proofs.Common.{◌≡◌, ◌++◌, drop}
use Rattle.cascades.specs.Walks.{marked_from}
use Rattle.cascades.proofs.marks.Marks.into_set.Given as goal

abbrev pub invariant-loop-number : goal.invariant-loop-number
invariant-loop-number l = l.set ++ marked_from l.number (drop l.number l.self.marks.items) ≡ marked_from 0 l.self.marks.items
