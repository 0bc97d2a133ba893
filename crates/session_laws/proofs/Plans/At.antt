-- What stands under a table and key, before and after an edit.
use Rattle.std.proofs.Common.{◌≡◌, ◌⊎◌, inl, inr, Bool, true, false, cond, T, List, Option, None, Some, refl, sym, ap, ◌∙◌, subst}
use Rattle.std.specs.Ordering.{is_eq}
use Rattle.std.specs.Cmp.{tied_itself}
use Rattle.std.specs.List.{AllByRecursion}
use Rattle.std.specs.BTreeMap.{is_at}
use Rattle.std.specs.Option.{is_some, option_and_then}
use Rattle.std.specs.FinMap.Entries.{is_sorted}
use Rattle.base_core.specs.declared.ids.TableId.{TableId}
use Rattle.base_core.specs.declared.value.Value.{Value}
use Rattle.base_core.specs.Order.{values_cmp}
use Rattle.schema_core.specs.Tables.{Rows, Tables, is_created, row_under, rows_in, table_cmp, with_rows}
use Rattle.table_laws.proofs.Entries.{all_insert, all_lookup}
use Rattle.table_laws.proofs.SameValues.{same_key, same_table, is_equal}
use Rattle.flush_order.specs.Sorted.{Place}
use Rattle.flush_plan.specs.Stating.{Edit, with_edit, edited_in, edited_rows, row_at}
use Rattle.session_laws.specs.Plans.Premises.{IsSorted}
use Rattle.session_laws.proofs.Plans.Lookups.{all_found, lookup_insert, lookup_remove, same_lists, sorted_insert, sorted_remove}
use Rattle.session_laws.proofs.Plans.Facts.{some_or_none, true_false}
use Rattle.base_core.proofs.Exact.{values_total}
use Rattle.schema_core.proofs.TableOrder.{tables_total}

pub rows_sorted : (tables : Tables) (table : TableId) (rows : Rows) → IsSorted tables → rows_in tables table ≡ Some rows → T (is_sorted values_cmp rows)
rows_sorted tables table rows sorted found = all_lookup table_cmp same_table (λ c. T (is_sorted values_cmp c.1)) tables table rows sorted.inner found

pub edited_sorted_rows : (rows : Rows) (key : List Value) (row : Option (List Value)) → T (is_sorted values_cmp rows) → T (is_sorted values_cmp (edited_rows rows key row))
edited_sorted_rows rows key None sorted = sorted_remove values_cmp values_total (is_at (values_cmp key)) rows sorted
edited_sorted_rows rows key (Some row) sorted = sorted_insert values_cmp values_total rows key row sorted

pub under_edited : (rows : Rows) (key : List Value) (row : Option (List Value)) (q : List Value) → T (is_sorted values_cmp rows) → row_under (edited_rows rows key row) q ≡ cond (is_eq (values_cmp q key)) row (row_under rows q)
under_edited rows key None q sorted = lookup_remove values_cmp values_total same_key rows key q sorted
under_edited rows key (Some row) q sorted = lookup_insert values_cmp values_total rows key row q

pub edit_is : (tables : Tables) (edit : Edit) (rows : Rows) → rows_in tables edit.0.0 ≡ Some rows → with_edit tables edit ≡ with_rows tables edit.0.0 (edited_rows rows edit.0.1 edit.1)
unfolding with_edit
edit_is tables edit rows found = ap (edited_in tables edit) found

pub edit_none : (tables : Tables) (edit : Edit) → rows_in tables edit.0.0 ≡ None → with_edit tables edit ≡ tables
unfolding with_edit
edit_none tables edit none = ap (edited_in tables edit) none

pub in_edited : (tables : Tables) (edit : Edit) (rows : Rows) (table : TableId) → rows_in tables edit.0.0 ≡ Some rows → rows_in (with_edit tables edit) table ≡ cond (is_eq (table_cmp table edit.0.0)) (Some (edited_rows rows edit.0.1 edit.1)) (rows_in tables table)
in_edited tables edit rows table found =
    ap (λ t. rows_in t table) (edit_is tables edit rows found) ∙ lookup_insert table_cmp tables_total tables edit.0.0 (edited_rows rows edit.0.1 edit.1) table

pub edited_sorted : (tables : Tables) (edit : Edit) → IsSorted tables → IsSorted (with_edit tables edit)
edited_sorted tables edit sorted =
    elim (some_or_none (rows_in tables edit.0.0)) [
      | inl found ↦ subst IsSorted (sym (edit_is tables edit found.0 found.1)) (record {
        outer = sorted_insert table_cmp tables_total tables edit.0.0 (edited_rows found.0 edit.0.1 edit.1) sorted.outer;
        inner = all_insert table_cmp same_table (λ c. T (is_sorted values_cmp c.1)) tables edit.0.0 (edited_rows found.0 edit.0.1 edit.1) sorted.inner (edited_sorted_rows found.0 edit.0.1 edit.1 (rows_sorted tables edit.0.0 found.0 sorted found.1));
      })
      | inr none ↦ subst IsSorted (sym (edit_none tables edit none)) sorted
    ]

created_step : (b : Bool) (rows : Rows) (o p : Option Rows) → o ≡ Some rows → (b ≡ true → p ≡ o) → is_some (cond b (Some rows) p) ≡ is_some p
created_step true rows o p e same = sym (ap is_some (same refl ∙ e))
created_step false rows o p e same = refl

still : (b : Bool) (rows edited : Rows) (o p : Option Rows) → o ≡ Some rows → (b ≡ true → p ≡ o) → is_some (cond b (Some edited) p) ≡ is_some p
still true rows edited o p e same = sym (ap is_some (same refl ∙ e))
still false rows edited o p e same = refl

pub edited_created : (tables : Tables) (edit : Edit) (table : TableId) → is_created (with_edit tables edit) table ≡ is_created tables table
edited_created tables edit table =
    elim (some_or_none (rows_in tables edit.0.0)) [
      | inl found ↦
          ap is_some (in_edited tables edit found.0 table found.1)
          ∙ still (is_eq (table_cmp table edit.0.0)) found.0 (edited_rows found.0 edit.0.1 edit.1) (rows_in tables edit.0.0) (rows_in tables table) found.1 (λ e. ap (rows_in tables) (same_table table edit.0.0 (is_equal (table_cmp table edit.0.0) e)))
      | inr none ↦ ap (λ t. is_some (rows_in t table)) (edit_none tables edit none)
    ]

-- what stands under the place of an edit
pub at_edit : (tables : Tables) (edit : Edit) (rows : Rows) → IsSorted tables → rows_in tables edit.0.0 ≡ Some rows → row_at (with_edit tables edit) edit.0 ≡ edit.1
at_edit tables edit rows sorted found =
    let here : rows_in (with_edit tables edit) edit.0.0 ≡ Some (edited_rows rows edit.0.1 edit.1) =
    in_edited tables edit rows edit.0.0 found ∙ ap (λ o. cond (is_eq o) (Some (edited_rows rows edit.0.1 edit.1)) (rows_in tables edit.0.0)) (tied_itself tables_total edit.0.0) in
    ap (option_and_then (λ r. row_under r edit.0.1)) here
    ∙ under_edited rows edit.0.1 edit.1 edit.0.1 (rows_sorted tables edit.0.0 rows sorted found)
    ∙ ap (λ o. cond (is_eq o) edit.1 (row_under rows edit.0.1)) (tied_itself values_total edit.0.1)

pub IsOther : Place → Place → Type 0
IsOther one other = one ≡ other → ⊥

other_key : (b : Bool) (key q : List Value) → is_eq (values_cmp q key) ≡ b → (q ≡ key → ⊥) → b ≡ false
other_key true key q e apart = absurd (apart (same_key q key (is_equal (values_cmp q key) e)))
other_key false key q e apart = refl

other_step : (tables : Tables) (edit : Edit) (rows : Rows) (q : Place) (b : Bool) → is_eq (table_cmp q.0 edit.0.0) ≡ b → IsSorted tables → rows_in tables edit.0.0 ≡ Some rows → (edit.0 ≡ q → ⊥) → option_and_then (λ r. row_under r q.1) (cond b (Some (edited_rows rows edit.0.1 edit.1)) (rows_in tables q.0)) ≡ row_at tables q
other_step tables edit rows q true at sorted found apart =
    let same : q.0 ≡ edit.0.0 = same_table q.0 edit.0.0 (is_equal (table_cmp q.0 edit.0.0) at) in
    let differs : is_eq (values_cmp q.1 edit.0.1) ≡ false = other_key (is_eq (values_cmp q.1 edit.0.1)) edit.0.1 q.1 refl (λ k. apart (sym (λ i. (same i, k i)))) in
    under_edited rows edit.0.1 edit.1 q.1 (rows_sorted tables edit.0.0 rows sorted found)
    ∙ ap (λ b. cond b edit.1 (row_under rows q.1)) differs
    ∙ sym (ap (option_and_then (λ r. row_under r q.1)) (ap (rows_in tables) same ∙ found))
other_step tables edit rows q false at sorted found apart = refl

-- elsewhere nothing changes
pub at_other : (tables : Tables) (edit : Edit) (q : Place) → IsSorted tables → (edit.0 ≡ q → ⊥) → row_at (with_edit tables edit) q ≡ row_at tables q
at_other tables edit q sorted apart =
    elim (some_or_none (rows_in tables edit.0.0)) [
      | inl found ↦
          ap (option_and_then (λ r. row_under r q.1)) (in_edited tables edit found.0 q.0 found.1)
          ∙ other_step tables edit found.0 q (is_eq (table_cmp q.0 edit.0.0)) refl sorted found.1 apart
      | inr none ↦ ap (λ t. row_at t q) (edit_none tables edit none)
    ]

-- ---- two places are one, or not

key_cases : (b : Bool) (k q : List Value) → is_eq (values_cmp k q) ≡ b → (k ≡ q) ⊎ (k ≡ q → ⊥)
key_cases true k q e = inl (same_key k q (is_equal (values_cmp k q) e))
key_cases false k q e = inr (λ same. true_false (sym (ap is_eq (tied_itself values_total q)) ∙ ap (λ z. is_eq (values_cmp z q)) (sym same) ∙ e))

table_cases : (b : Bool) (t u : TableId) → is_eq (table_cmp t u) ≡ b → (t ≡ u) ⊎ (t ≡ u → ⊥)
table_cases true t u e = inl (same_table t u (is_equal (table_cmp t u) e))
table_cases false t u e = inr (λ same. true_false (sym (ap is_eq (tied_itself tables_total u)) ∙ ap (λ z. is_eq (table_cmp z u)) (sym same) ∙ e))

pub place_cases : (p q : Place) → (p ≡ q) ⊎ (p ≡ q → ⊥)
place_cases p q =
    elim (table_cases (is_eq (table_cmp p.0 q.0)) p.0 q.0 refl) [
      | inl table ↦ elim (key_cases (is_eq (values_cmp p.1 q.1)) p.1 q.1 refl) [
        | inl key ↦ inl (λ i. (table i, key i))
        | inr other ↦ inr (λ same. other (ap (λ z. z.1) same))
      ]
      | inr other ↦ inr (λ same. other (ap (λ z. z.0) same))
    ]

-- ---- tables with the same rows are the same

-- what holds of each row that is found holds of each row of each table
pub each_row : (P : TableId → Rows → List Value × List Value → Type 0) (tables : Tables) → IsSorted tables → ((table : TableId) (rows : Rows) (key row : List Value) → rows_in tables table ≡ Some rows → row_under rows key ≡ Some row → P table rows (key, row)) → AllByRecursion (λ c. AllByRecursion (P c.0 c.1) c.1) tables
each_row P tables sorted each =
    all_found table_cmp tables_total same_table (λ c. AllByRecursion (P c.0 c.1) c.1) tables sorted.outer
    (λ table rows found. all_found values_cmp values_total same_key (P table rows) rows (rows_sorted tables table rows sorted found) (λ key row under. each table rows key row found under))

pub row_found : (P : TableId → Rows → List Value × List Value → Type 0) (tables : Tables) (table : TableId) (rows : Rows) (key row : List Value) → AllByRecursion (λ c. AllByRecursion (P c.0 c.1) c.1) tables → rows_in tables table ≡ Some rows → row_under rows key ≡ Some row → P table rows (key, row)
row_found P tables table rows key row all found under =
    all_lookup values_cmp same_key (P table rows) rows key row (all_lookup table_cmp same_table (λ c. AllByRecursion (P c.0 c.1) c.1) tables table rows all found) under

some_rows : (x y : Rows) → Some x ≡ Some y → x ≡ y
some_rows x y e = cc

same_in : (one other : Tables) (table : TableId) (o p : Option Rows) → rows_in one table ≡ o → rows_in other table ≡ p → IsSorted one → IsSorted other → is_some o ≡ is_some p → ((q : Place) → row_at one q ≡ row_at other q) → o ≡ p
same_in one other table None None a b s t c each = refl
same_in one other table None (Some rows) a b s t c each = absurd (true_false (sym c))
same_in one other table (Some rows) None a b s t c each = absurd (true_false c)
same_in one other table (Some rows) (Some more) a b s t c each =
    ap Some (same_lists values_cmp values_total same_key rows more (rows_sorted one table rows s a) (rows_sorted other table more t b)
    (λ key. sym (ap (option_and_then (λ r. row_under r key)) a) ∙ each (table, key) ∙ ap (option_and_then (λ r. row_under r key)) b))

-- tables that rise, of which the same are created, and with the same row under each key, are the same
pub same_tables : (one other : Tables) → IsSorted one → IsSorted other → ((table : TableId) → is_created one table ≡ is_created other table) → ((q : Place) → row_at one q ≡ row_at other q) → one ≡ other
same_tables one other s t created each =
    same_lists table_cmp tables_total same_table one other s.outer t.outer
    (λ table. same_in one other table (rows_in one table) (rows_in other table) refl refl s t (created table) each)
