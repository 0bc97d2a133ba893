use Rattle.std.proofs.Common.{◌≡◌, ◌+◌, [], length}
use Rattle.std.specs.Vec.Iter.{into_iter_items}
use Rattle.sql_semantics.specs.Order.{ranked_from}
use Rattle.query_steps.proofs.order.ranked.Given as goal

abbrev pub invariant-loop-keys : goal.invariant-loop-keys
invariant-loop-keys l =
    (goal.iterator-loop-keys).can_next l.keys-iterator × (goal.iterator-loop-keys).is_finite l.keys-iterator
    × (ranked_from l.ranked.entries l.place (into_iter_items l.keys-iterator) ≡ ranked_from [] 0 l.fn.outputs.items)
    × (l.place + length (into_iter_items l.keys-iterator) ≡ length l.fn.outputs.items)
