-- Rows in their places: found, put in, taken out and brought back.
use Rattle.std.proofs.Common.{◌≡◌, List, Option, None, Some, ap, ◌∙◌}
use Rattle.std.specs.Option.{option_flatten}
use Rattle.std.specs.BTreeMap.{is_at}
use Rattle.std.specs.Map.{keys_of, lookup, remove_entry, set_value}
use Rattle.std.specs.List.Sorted.{IsStrictlySortedBy}
use Rattle.base_core.proofs.Exact.{exact_values, values_total}
use Rattle.base_core.specs.declared.value.Value.{Value}
use Rattle.base_core.specs.Order.{values_cmp}
use Rattle.schema_core.specs.Tables.{row_under, with_row, without_row}
use Rattle.std.specs.BTreeMap.{insert_entry}
use Rattle.table_rows.specs.Rows.{KeepsPlaces, Places, rows_present, with_former_row}
use Rattle.table_rows.proofs.Entries.{put_in_place}
use Rattle.table_rows.proofs.Places.{full_found, full_put, full_sorted, full_swept, full_taken, keeps_put, keeps_set, none_taken}

pub row_found : (places : Places) (key : List Value) → IsStrictlySortedBy values_cmp (keys_of places) → row_under (rows_present places) key ≡ option_flatten (lookup (is_at (values_cmp key)) places)
row_found places key sorted = full_found values_total key places sorted

pub row_put : (places : Places) (key row : List Value) → IsStrictlySortedBy values_cmp (keys_of places) → rows_present (insert_entry values_cmp places key (Some row)) ≡ with_row (rows_present places) key row
row_put places key row sorted = full_put values_total exact_values key row places sorted

pub row_taken : (places : Places) (key : List Value) → IsStrictlySortedBy values_cmp (keys_of places) → rows_present (set_value (is_at (values_cmp key)) places None) ≡ without_row (rows_present places) key
row_taken places key sorted = full_taken values_total key places sorted

pub row_back : (places : Places) (key : List Value) (place before : Option (List Value)) → IsStrictlySortedBy values_cmp (keys_of places) → lookup (is_at (values_cmp key)) places ≡ Some place
    → rows_present (set_value (is_at (values_cmp key)) places before) ≡ with_former_row (rows_present places) key before
row_back places key place None sorted found = row_taken places key sorted
row_back places key place (Some row) sorted found = ap rows_present (put_in_place values_total key place (Some row) places sorted found) ∙ row_put places key row sorted

pub row_swept : (places : Places) (key : List Value) → lookup (is_at (values_cmp key)) places ≡ Some None → rows_present (remove_entry (is_at (values_cmp key)) places) ≡ rows_present places
row_swept places key found = full_swept values_cmp key places found

pub rows_sorted : (places : Places) → IsStrictlySortedBy values_cmp (keys_of places) → IsStrictlySortedBy values_cmp (keys_of (rows_present places))
rows_sorted places sorted = full_sorted values_cmp places sorted

pub nothing_taken : (places : Places) (key : List Value) → lookup (is_at (values_cmp key)) places ≡ None → without_row (rows_present places) key ≡ rows_present places
nothing_taken places key none = none_taken (is_at (values_cmp key)) places none

pub kept_put : (places : Places) (key : List Value) (place : Option (List Value)) → KeepsPlaces places (insert_entry values_cmp places key place)
kept_put places key place other there = keeps_put values_cmp (is_at (values_cmp other)) key place places there

pub kept_set : (places : Places) (key : List Value) (place : Option (List Value)) → KeepsPlaces places (set_value (is_at (values_cmp key)) places place)
kept_set places key place other there = keeps_set (is_at (values_cmp key)) (is_at (values_cmp other)) place places there

pub ruleset standing = (row_found, row_put, row_taken, row_back, row_swept, rows_sorted, nothing_taken, kept_put, kept_set)
