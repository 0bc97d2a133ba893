use Rattle.std.proofs.Common.{◌≡◌, ◌++◌, map}
use Rattle.base_core.specs.Ascending.{IsAscending}
use Rattle.cascades.specs.Walks.{id_of_number}
use Rattle.cascades.proofs.walk.Walk.into_set.Given as goal

abbrev pub invariant-loop-number : goal.invariant-loop-number
invariant-loop-number l =
    (goal.iterator-loop-number).can_next l.number-iterator × (goal.iterator-loop-number).is_finite l.number-iterator
    × (l.set ++ map id_of_number l.number-iterator ≡ map id_of_number l.fn.self.reached.keys) × IsAscending (map id_of_number l.fn.self.reached.keys)
