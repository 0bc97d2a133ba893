use Rattle.std.proofs.Common.{◌≡◌, []}
use Rattle.std.specs.Vec.Iter.{into_iter_items}
use Rattle.select_sources.specs.Frames.{frame_of}
use Rattle.sql_semantics.specs.Rows as spec
use Rattle.select_rows.proofs.group.keyed.Given as goal

abbrev pub invariant-loop-row : goal.invariant-loop-row
invariant-loop-row l =
    (goal.iterator-loop-row).can_next l.row-iterator × (goal.iterator-loop-row).is_finite l.row-iterator
    × (spec.mapped_from (spec.row_with_key (frame_of l.frame) l.expressions) l.all.items (into_iter_items l.row-iterator) ≡ spec.mapped_from (spec.row_with_key (frame_of l.frame) l.expressions) [] l.fn.rows.items)
