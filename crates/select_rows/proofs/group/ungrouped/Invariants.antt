use Rattle.std.proofs.Common.{◌≡◌, ◌++◌, map}
use Rattle.std.specs.Vec.Iter.{into_iter_items}
use Rattle.sql_semantics.specs.declared.basis.Basis.TheVariants.{Row}
use Rattle.select_rows.proofs.group.ungrouped.Given as goal

abbrev pub invariant-loop-row : goal.invariant-loop-row
invariant-loop-row l =
    (goal.iterator-loop-row).can_next l.row-iterator × (goal.iterator-loop-row).is_finite l.row-iterator
    × (l.bases.items ++ map (λ r. Row r) (into_iter_items l.row-iterator) ≡ map (λ r. Row r) l.fn.rows.items)
