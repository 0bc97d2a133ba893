-- Rows that were seen, in a set beside a list.
use Rattle.std.specs.Prelude.{◌≡◌, List}
use Rattle.std.specs.List.{list_any}
use Rattle.std.specs.BTreeSet.{BTreeSet, contains}
use Rattle.base_core.specs.Order.{values_cmp}
use Rattle.sql_semantics.specs.Eval.{Row}
use Rattle.sql_semantics.specs.Order.{same_row}

-- the set has the rows that equal one of these
pub record HasSeen (seen : BTreeSet Row) (rows : List Row) : Type 0 where
  pub same : (q : Row) → contains values_cmp seen q ≡ list_any (same_row q) rows
