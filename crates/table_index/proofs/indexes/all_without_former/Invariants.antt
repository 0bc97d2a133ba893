use Rattle.std.proofs.Common.{◌≡◌, length}
use Rattle.std.specs.List.{AllByRecursion}
use Rattle.std.specs.Option.{option_copied}
use Rattle.table_index.specs.Indexed.{Found, IsComplete}
use Rattle.table_index.proofs.indexes.all_without_former.Given as goal

abbrev pub invariant-loop-index : goal.invariant-loop-index
invariant-loop-index l = (rows : Found) → AllByRecursion (IsComplete rows) l.fn.indexes.items → rows l.key ≡ option_copied l.row
    → AllByRecursion (IsComplete rows) l.rest.items × AllByRecursion (IsComplete rows) l.done.items

abbrev pub decreases-loop-index : goal.decreases-loop-index
decreases-loop-index l = length l.rest.items
