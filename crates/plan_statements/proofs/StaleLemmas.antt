-- Steps of the loops over rows whose tables and keys go into a set, and over keys that are looked up in it.
use Rattle.std.proofs.Common.{◌≡◌, ◌≢◌, ℕ, ◌+◌, ◌<◌, Bool, true, false, cond, ◌&&◌, ◌||◌, List, [], ◌∷◌, ◌++◌, length, get_or, take, drop, refl, sym, ap, ◌∙◌}
use Rattle.std.proofs.lemmas.List.{drop_more, take_more}
use Rattle.std.specs.Prelude.{nat_eq}
use Rattle.std.specs.BTreeSet.{BTreeSet, contains}
use Rattle.std.specs.BTreeMap.{is_at}
use Rattle.std.specs.Cmp.{unsigned_ties}
use Rattle.std.specs.Ordering.{is_eq, nat_cmp}
use Rattle.std.specs.List.{list_any}
use Rattle.base_core.proofs.Tests.{and_none, and_true, or_false, then_equal}
use Rattle.base_core.specs.declared.ids.ColumnNo.{ColumnNo}
use Rattle.base_core.specs.declared.ids.TableId.{TableId}
use Rattle.base_core.specs.declared.value.Value.{Value}
use Rattle.base_core.specs.Order.{values_cmp}
use Rattle.schema_core.specs.declared.changes.ChangedRow.{ChangedRow}
use Rattle.schema_core.specs.declared.changes.GoneRow.{GoneRow}
use Rattle.schema_core.specs.declared.changes.RowCell.{RowCell}
use Rattle.schema_core.specs.declared.changes.RowChanges.{RowChanges}
use Rattle.schema_core.specs.Catalog.{Catalog}
use Rattle.schema_core.specs.Tables.{table_cmp}
use Rattle.flush_order.specs.Refers.{gone_key}
use Rattle.flush_order.specs.Sorted.{Place, place_cmp, same_place}
use Rattle.flush_plan.specs.Flushing.{is_stale}
use Rattle.flush_writes.specs.Writes.{place_of_changed, writes_some}
use Rattle.plan_statements.specs.Stale.{has_place, is_deleted_at, is_written_at}

-- ---- tables and keys that are the same

nat_same : (a b : ℕ) → is_eq (nat_cmp a b) ≡ nat_eq a b
nat_same a b = sym (unsigned_ties a b)

pub place_same : (one other : Place) → is_at (place_cmp one) other ≡ same_place one other
place_same one other =
    sym (then_equal (table_cmp one.0 other.0) (values_cmp one.1 other.1)) ∙ ap (λ b. b && is_eq (values_cmp one.1 other.1)) (nat_same one.0.0 other.0.0)

-- ---- one row more

pub any_more : {A : Type 0} (test : A → Bool) (rows : List A) (i : ℕ) (d : A) → i < length rows → list_any test (take (i + 1) rows) ≡ (list_any test (take i rows) || test (get_or rows i d))
any_more test rows i d h = ap (list_any test) (take_more rows i d h) ∙ any_behind test (take i rows) (get_or rows i d)
  where
    any_behind : {A : Type 0} (test : A → Bool) (rows : List A) (row : A) → list_any test (rows ++ row ∷ []) ≡ (list_any test rows || test row)
    any_behind test [] row = or_false (test row)
    any_behind test (other ∷ rows) row = by (test other) (list_any test (rows ++ row ∷ [])) (list_any test rows) (test row) (any_behind test rows row)
      where
        by : (b c d e : Bool) → c ≡ (d || e) → (b || c) ≡ ((b || d) || e)
        by true c d e is = refl
        by false c d e is = is

or_then : (a b c : Bool) → ((a || b) || c) ≡ (a || (b || c))
or_then true b c = refl
or_then false b c = refl

-- the rows so far, and one more
pub one_more : {A : Type 0} (test : A → Bool) (rows : List A) (i : ℕ) (row : A) (was had now : Bool) → i < length rows → row ≡ get_or rows i row → had ≡ (was || list_any test (take i rows)) → now ≡ (had || test row) → now ≡ (was || list_any test (take (i + 1) rows))
one_more test rows i row was had now within is so then =
    then ∙ ap (λ b. b || test row) so ∙ or_then was (list_any test (take i rows)) (test row)
    ∙ ap (λ b. was || b) (ap (λ r. list_any test (take i rows) || test r) is ∙ sym (any_more test rows i row within))

-- a key that is not found
pub any_failed : {A : Type 0} (test : A → Bool) (items : List A) (i : ℕ) (item : A) → i < length items → item ≡ get_or items i item → test item ≡ false → list_any test (drop (i + 1) items) ≡ list_any test (drop i items)
any_failed test items i item within is fails =
    sym (ap (list_any test) (drop_more items i item within) ∙ ap (λ x. test x || list_any test (drop (i + 1) items)) (sym is) ∙ ap (λ b. b || list_any test (drop (i + 1) items)) fails)

-- ---- a table and key go into a set

put_or : (b was : Bool) → cond b true was ≡ (was || b)
put_or true true = refl
put_or true false = refl
put_or false true = refl
put_or false false = refl

pub put_place : (old new : BTreeSet Place) (place other : Place) → contains place_cmp new other ≡ cond (is_at (place_cmp place) other) true (contains place_cmp old other) → contains place_cmp new other ≡ (contains place_cmp old other || same_place place other)
put_place old new place other is = is ∙ put_or (is_at (place_cmp place) other) (contains place_cmp old other) ∙ ap (λ b. contains place_cmp old other || b) (place_same place other)

pub not_written : (places : BTreeSet Place) (row : ChangedRow) (table : TableId) (key : List Value) → row.cells ≡ [] → has_place places table key ≡ (has_place places table key || is_written_at table key row)
not_written places row table key none =
    sym (ap (λ b. has_place places table key || b) (and_none (same_place (place_of_changed row) (table, key)) (writes_some row.cells) (ap writes_some none)) ∙ or_false (has_place places table key))

some_cells : (cells : List (ColumnNo × RowCell)) → cells ≢ [] → writes_some cells ≡ true
some_cells [] some = absurd (some refl)
some_cells (cell ∷ cells) some = refl

pub written : (old new : BTreeSet Place) (row : ChangedRow) (copy : List Value) (table : TableId) (key : List Value) → row.cells ≢ [] → copy ≡ row.key
    → contains place_cmp new (table, key) ≡ cond (is_at (place_cmp (row.name.table, copy)) (table, key)) true (contains place_cmp old (table, key))
    → has_place new table key ≡ (has_place old table key || is_written_at table key row)
written old new row copy table key some same is =
    put_place old new (row.name.table, copy) (table, key) is
    ∙ ap (λ (k : List Value). has_place old table key || same_place (row.name.table, k) (table, key)) same
    ∙ ap (λ b. has_place old table key || b) (sym (and_true (same_place (row.name.table, row.key) (table, key))) ∙ ap (λ b. same_place (row.name.table, row.key) (table, key) && b) (sym (some_cells row.cells some)))

pub deleted : (schema : Catalog) (old new : BTreeSet Place) (row : GoneRow) (found : List Value) (table : TableId) (key : List Value) → found ≡ gone_key schema row
    → contains place_cmp new (table, key) ≡ cond (is_at (place_cmp (row.name.table, found)) (table, key)) true (contains place_cmp old (table, key))
    → has_place new table key ≡ (has_place old table key || is_deleted_at schema table key row)
deleted schema old new row found table key same is =
    put_place old new (row.name.table, found) (table, key) is ∙ ap (λ (k : List Value). has_place old table key || same_place (row.name.table, k) (table, key)) same

pub all_places : (schema : Catalog) (changes : RowChanges) (first second all : BTreeSet Place) (table : TableId) (key : List Value) → first.keys ≡ []
    → has_place second table key ≡ (has_place first table key || list_any (is_written_at table key) changes.changed)
    → has_place all table key ≡ (has_place second table key || list_any (is_deleted_at schema table key) changes.gone)
    → has_place all table key ≡ is_stale schema changes table key
all_places schema changes first second all table key none is then =
    then ∙ ap (λ b. b || list_any (is_deleted_at schema table key) changes.gone) is
    ∙ ap (λ (ks : List Place). (list_any (is_at (place_cmp (table, key))) ks || list_any (is_written_at table key) changes.changed) || list_any (is_deleted_at schema table key) changes.gone) none
