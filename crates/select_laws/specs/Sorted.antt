-- Rows that are sorted by their keys, with rows of equal keys as they come.
use Rattle.std.specs.Prelude.{List, IsPermutation, IsSortedByKey}
use Rattle.std.specs.List.Sorted.{IsStableByKey}
use Rattle.std.specs.declared.cmp.Ordering.{Ordering}
use Rattle.std.specs.Cmp.Lexicographic.{slice_cmp}
use Rattle.base_core.specs.declared.value.Value.{Value}
use Rattle.sql_semantics.specs.declared.sort_key.SortKey.{SortKey}
use Rattle.sql_semantics.specs.Order.{key_cmp}

-- a row behind its keys
abbrev pub KeyedRow : Type 0
KeyedRow = List SortKey × List Value

-- by the first key, and where it is equal by the next
abbrev pub keys_cmp : List SortKey → List SortKey → Ordering
keys_cmp = slice_cmp key_cmp

-- the list has the rows as they come, no row stands behind one with a greater key, and rows with equal keys stand as they come
pub record IsSortedStably (rows sorted : List KeyedRow) : Type 0 where
  pub permuted : IsPermutation rows sorted
  pub by_keys : IsSortedByKey (λ r. r.0) keys_cmp sorted
  pub stable : IsStableByKey (λ r. r.0) keys_cmp rows sorted
