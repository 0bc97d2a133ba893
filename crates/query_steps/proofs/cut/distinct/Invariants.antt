use Rattle.std.proofs.Common.{◌≡◌, []}
use Rattle.std.specs.Vec.Iter.{into_iter_items}
use Rattle.sql_semantics.specs.Rows.{firsts_from}
use Rattle.query_steps.specs.Seen.{HasSeen}
use Rattle.query_steps.proofs.cut.distinct.Given as goal

abbrev pub invariant-loop-row : goal.invariant-loop-row
invariant-loop-row l =
    (goal.iterator-loop-row).can_next l.row-iterator × (goal.iterator-loop-row).is_finite l.row-iterator
    × (firsts_from l.kept.items (into_iter_items l.row-iterator) ≡ firsts_from [] l.fn.rows.items) × HasSeen l.seen l.kept.items
