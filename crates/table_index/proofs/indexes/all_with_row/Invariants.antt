use Rattle.std.proofs.Common.{Some, length}
use Rattle.std.specs.List.{AllByRecursion}
use Rattle.table_index.specs.Indexed.{Found, IsChanged, IsComplete}
use Rattle.table_index.proofs.indexes.all_with_row.Given as goal

abbrev pub invariant-loop-index : goal.invariant-loop-index
invariant-loop-index l = (rows after : Found) → AllByRecursion (IsComplete rows) l.fn.indexes.items → IsChanged rows l.key (Some l.row) after
    → AllByRecursion (IsComplete rows) l.left.items × AllByRecursion (IsComplete after) l.done.items

abbrev pub decreases-loop-index : goal.decreases-loop-index
decreases-loop-index l = length l.left.items
