use Rattle.std.proofs.Common.{◌≡◌, []}
use Rattle.std.specs.Vec.Iter.{into_iter_items}
use Rattle.sql_semantics.specs.Eval.{meaning_of}
use Rattle.select_sources.specs.Frames.{frame_of}
use Rattle.sql_semantics.specs.Rows as spec
use Rattle.select_rows.proofs.having.kept_bases.Given as goal

abbrev pub invariant-loop-basis : goal.invariant-loop-basis
invariant-loop-basis l =
    (goal.iterator-loop-basis).can_next l.basis-iterator × (goal.iterator-loop-basis).is_finite l.basis-iterator
    × (spec.kept_from (λ b. meaning_of l.condition (spec.at_basis (frame_of l.frame) b)) l.kept.items (into_iter_items l.basis-iterator) ≡ spec.kept_from (λ b. meaning_of l.condition (spec.at_basis (frame_of l.frame) b)) [] l.fn.bases.items)
