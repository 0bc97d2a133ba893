-- Changes of rows, as an index is told of them.
use Rattle.std.proofs.Common.{◌≡◌, ◌⊎◌, inl, inr, Bool, true, false, List, [], ◌∷◌, Option, None, Some, refl, sym, ap, subst, ◌∙◌}
use Rattle.std.specs.declared.cmp.Ordering.{Ordering}
use Rattle.std.specs.declared.cmp.Ordering.TheVariants.{Less, Equal, Greater}
use Rattle.std.specs.Cmp.{IsTotalOrder}
use Rattle.std.specs.List.Sorted.{IsStrictlySortedBy}
use Rattle.std.specs.BTreeMap.{is_at}
use Rattle.std.specs.Map.{keys_of, lookup, remove_entry}
use Rattle.std.proofs.lemmas.Map.Keys.{sorted_head, sorted_tail}
use Rattle.base_core.proofs.Exact.{exact_values, values_total}
use Rattle.base_core.specs.declared.value.Value.{Value}
use Rattle.base_core.specs.Order.{values_cmp}
use Rattle.schema_core.specs.Tables.{Rows, row_under, same_values, with_row, without_row}
use Rattle.table_index.specs.declared.index.ValueIndex.{ValueIndex}
use Rattle.table_index.specs.declared.indexes.Indexes.{Indexes}
use Rattle.table_index.specs.Indexed.{AreComplete, IsChanged, is_entered}
use Rattle.table_index.proofs.Entered.{lost_kept, same_is, same_values_equiv}
use Rattle.table_rows.specs.Rows.{Places, rows_present, with_place}
use Rattle.table_rows.proofs.Entries.{found_put, put_other, removed_other}
use Rattle.table_rows.proofs.Places.{as_above, none_above}

-- nothing stands under a key that was taken out
taken_here : {K X : Type 0} {R : K → K → Ordering} (o : IsTotalOrder R) (k : K) (es : List (K × X)) → IsStrictlySortedBy R (keys_of es) → lookup (is_at (R k)) (remove_entry (is_at (R k)) es) ≡ None
taken_here o k [] sorted = refl
taken_here {R = R} o k (e ∷ es) sorted = by (R k e.0) refl (taken_here o k es (sorted_tail R e.0 (keys_of es) sorted)) (λ is. none_above R k es (as_above o k e.0 is (keys_of es) (sorted_head R e.0 (keys_of es) sorted)))
  where
    by : (r : Ordering) → R k e.0 ≡ r → lookup (is_at (R k)) (remove_entry (is_at (R k)) es) ≡ None → (R k e.0 ≡ Equal → lookup (is_at (R k)) es ≡ None) → lookup (is_at (R k)) (remove_entry (is_at (R k)) (e ∷ es)) ≡ None
    by Less is rest none = rw (is, is) rest
    by Equal is rest none = rw is (none is)
    by Greater is rest none = rw (is, is) rest

apart_too : (key other : List Value) → same_values key other ≡ false → is_at (values_cmp other) key ≡ false
apart_too key other apart = sym (same_values_equiv.symm key other) ∙ apart

-- a row was put in
pub put_changed : (old new : Rows) (key row : List Value) → new ≡ with_row old key row → IsChanged (row_under old) key (Some row) (row_under new)
put_changed old new key row is = record {
  here = ap (λ rows. row_under rows key) is ∙ found_put values_total key row old;
  others = λ other apart. ap (λ rows. row_under rows other) is ∙ put_other exact_values other key row old (apart_too key other apart);
}

-- a row was taken out
pub take_changed : (old new : Rows) (key : List Value) → IsStrictlySortedBy values_cmp (keys_of old) → new ≡ without_row old key → IsChanged (row_under old) key None (row_under new)
take_changed old new key sorted is = record {
  here = ap (λ rows. row_under rows key) is ∙ taken_here values_total key old sorted;
  others = λ other apart. ap (λ rows. row_under rows other) is ∙ removed_other exact_values other key old (apart_too key other apart);
}

-- the row under a key is gone, or there was none
pub take_kept : (indexes : Indexes) (old new : Rows) (key : List Value) → IsStrictlySortedBy values_cmp (keys_of old) → new ≡ without_row old key → AreComplete (row_under old) indexes → AreComplete (row_under new) indexes
take_kept indexes old new key sorted is complete = lost_kept indexes (row_under old) (row_under new) key (take_changed old new key sorted is) complete

-- ---- an index of all rows

-- each row is entered, or is among those that are left
abbrev pub AreEntered : ValueIndex → Rows → Rows → Type 0
AreEntered index rows left = (key row : List Value) → row_under rows key ≡ Some row → (is_entered index key row ≡ true) ⊎ (row_under left key ≡ Some row)

pub none_entered : (index : ValueIndex) (rows : Rows) → AreEntered index rows rows
none_entered index rows key row there = inr there

pub entered_more : (index new : ValueIndex) (rows left : Rows) (key row : List Value) → is_entered new key row ≡ true → ((other cells : List Value) → is_entered index other cells ≡ true → is_entered new other cells ≡ true)
    → AreEntered index rows ((key, row) ∷ left) → AreEntered new rows left
entered_more index new rows left key row here others so_far other cells there = elim (so_far other cells there) [
  | inl in_it ↦ inl (others other cells in_it)
  | inr among ↦ by (same_values other key) refl among
]
  where
    by : (b : Bool) → same_values other key ≡ b → row_under ((key, row) ∷ left) other ≡ Some cells → (is_entered new other cells ≡ true) ⊎ (row_under left other ≡ Some cells)
    by true is among =
        let it : Some row ≡ Some cells = rw is at among in
        let same : row ≡ cells = cc in
        inl (ap (λ k. is_entered new k cells) (same_is other key is) ∙ ap (is_entered new key) (sym same) ∙ here)
    by false is among = inr (rw is at among)

-- the same at the next place
pub entered_next : (index new : ValueIndex) (rows : Rows) (left rest : Places) (key row seen : List Value) (place : Option (List Value)) → left ≡ (key, place) ∷ rest → place ≡ Some row → seen ≡ row → is_entered new key seen ≡ true
    → ((other cells : List Value) → is_entered index other cells ≡ true → is_entered new other cells ≡ true) → AreEntered index rows (rows_present left) → AreEntered new rows (rows_present rest)
entered_next index new rows left rest key row seen place parts is same here others so_far =
    entered_more index new rows (rows_present rest) key row (ap (is_entered new key) (sym same) ∙ here) others
    (subst (λ (es : Rows). AreEntered index rows es) (ap rows_present parts ∙ ap (λ (p : Option (List Value)). with_place key p (rows_present rest)) is) so_far)

pub all_entered : (index : ValueIndex) (rows : Rows) → AreEntered index rows [] → (key row : List Value) → row_under rows key ≡ Some row → is_entered index key row ≡ true
all_entered index rows so_far key row there = elim (so_far key row there) [
  | inl in_it ↦ in_it
  | inr none ↦ absurd (cc)
]

pub ruleset entering = (none_entered, entered_more, all_entered)

-- ---- each row stands under its key
