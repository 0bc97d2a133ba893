-- Rows that are found by the values in some of their columns.
use Rattle.std.specs.Prelude.{◌≡◌, ℕ, Bool, true, false, slice_index_or, List, [], map, Option, None, Some}
use Rattle.std.specs.List.{AllByRecursion, list_all, list_any}
use Rattle.std.specs.BTreeMap.{BTreeMap, get}
use Rattle.std.specs.BTreeSet.{BTreeSet}
use Rattle.base_core.specs.declared.value.Value.{Value}
use Rattle.base_core.specs.declared.value.Value.TheVariants.{Null}
use Rattle.base_core.specs.Order.{values_cmp}
use Rattle.schema_core.specs.Tables.{same_values}
use Rattle.table_index.specs.declared.index.ValueIndex.{ValueIndex}
use Rattle.table_index.specs.declared.indexes.Indexes.{Indexes}

-- the cells of a row in these columns, told by their places; NULL where the row has none
abbrev pub cells_at : List ℕ → List Value → List Value
cells_at columns row = map (λ column. slice_index_or row column Null) columns

-- the keys of a set, none where there is no set
abbrev pub keys_in : Option (BTreeSet (List Value)) → List (List Value)
keys_in None = []
keys_in (Some keys) = keys.keys

-- the keys at a value, none where it is not there
abbrev pub keys_at : BTreeMap (List Value) (BTreeSet (List Value)) → List Value → List (List Value)
keys_at index value = keys_in (get values_cmp index value)

-- the key is among those at the values that the row has in the index's columns
abbrev pub is_entered : ValueIndex → List Value → List Value → Bool
is_entered index key row = list_any (same_values key) (keys_at index.holders (cells_at index.columns.items row))

-- a row is there that has the cells of another in these columns
abbrev pub has_cells_of : List ℕ → List Value → Option (List Value) → Bool
has_cells_of columns other None = false
has_cells_of columns other (Some row) = same_values (cells_at columns other) (cells_at columns row)

-- rows told by their keys
abbrev pub Found : Type 0
Found = List Value → Option (List Value)

-- Each row is entered. Keys may stand in the index whose rows have gone or have other values.
abbrev pub IsComplete : Found → ValueIndex → Type 0
IsComplete rows index = (key row : List Value) → rows key ≡ Some row → is_entered index key row ≡ true

abbrev pub AreComplete : Found → Indexes → Type 0
AreComplete rows indexes = AllByRecursion (IsComplete rows) indexes.list.items

-- each index has the row
abbrev pub has_entered : Indexes → List Value → List Value → Bool
has_entered indexes key row = list_all (λ index. is_entered index key row) indexes.list.items

-- the rows differ under this key alone, where this stands after the change
pub record IsChanged (rows : Found) (key : List Value) (row : Option (List Value)) (after : Found) : Type 0 where
  pub here : after key ≡ row
  pub others : (other : List Value) → same_values key other ≡ false → after other ≡ rows other
