-- Rows that refer to what was taken out, found by the keys of what was.
use Rattle.std.proofs.Common.{◌≡◌, ℕ, Bool, true, false, ◌&&◌, ◌||◌, List, [], ◌∷◌, Option, None, Some, is_some, refl, sym, ap, ◌∙◌}
use Rattle.std.proofs.lemmas.Bool.{true≢false}
use Rattle.std.specs.Borrow.{Bor}
use Rattle.std.specs.List.{list_any}
use Rattle.std.specs.List.Sorted.{IsStrictlySortedBy}
use Rattle.std.specs.Cmp.{both_ways}
use Rattle.std.specs.Map.{keys_of}
use Rattle.base_core.proofs.Tests.{and_false, and_true}
use Rattle.base_core.specs.declared.ids.TableId.{TableId}
use Rattle.base_core.specs.declared.value.Value.{Value}
use Rattle.base_core.specs.Order.{values_cmp}
use Rattle.schema_core.specs.declared.table.ForeignSpec.{ForeignSpec}
use Rattle.schema_core.specs.declared.table.TableSpec.{TableSpec}
use Rattle.schema_core.specs.Catalog.{Catalog}
use Rattle.schema_core.specs.Tables.{Rows, Tables, cells_of, row_under, same_values}
use Rattle.table_index.specs.declared.index.ValueIndex.{ValueIndex}
use Rattle.table_index.specs.Indexed.{IsComplete, cells_at, keys_at}
use Rattle.table_index.proofs.Entered.{same_is}
use Rattle.table_rows.specs.Rows.{Places, rows_present}
use Rattle.row_judging.specs.declared.losing.Before.TheVariants as before
use Rattle.row_judging.specs.Lost.{has_there, is_gone, is_lost, key_lost, refers_to, some_row_has}
use Rattle.row_judging.proofs.HolderSteps.{each_found, from_key, from_some, key_passes, row_passes, turned}
use Rattle.row_judging.proofs.Gone.{any_same}

-- a test that holds of all or of none
and_any : {A : Type 0} (b : Bool) (test : A → Bool) (xs : List A) → list_any (λ x. b && test x) xs ≡ (b && list_any test xs)
and_any true test xs = refl
and_any false test [] = refl
and_any false test (x ∷ xs) = and_any false test xs

-- cells that are a key that is gone
gone_there : (schema : Catalog) (left : Tables) (foreign : ForeignSpec) (cells key : List Value) (b : Bool) → same_values cells key ≡ b → (b && is_gone schema left foreign cells) ≡ (is_gone schema left foreign key && b)
gone_there schema left foreign cells key true same = ap (is_gone schema left foreign) (same_is cells key same) ∙ sym (and_true (is_gone schema left foreign key))
gone_there schema left foreign cells key false same = sym (and_false (is_gone schema left foreign key))

-- cells among the keys that were taken out
gone_among : (schema : Catalog) (left : Tables) (foreign : ForeignSpec) (cells : List Value) (taken : Rows) → (list_any (λ e. same_values cells e.0) taken && is_gone schema left foreign cells)
    ≡ list_any (λ e. is_gone schema left foreign e.0 && same_values cells e.0) taken
gone_among schema left foreign cells [] = refl
gone_among schema left foreign cells (e ∷ taken) =
    or_and (same_values cells e.0) (list_any (λ (t : List Value × List Value). same_values cells t.0) taken) (is_gone schema left foreign cells)
    ∙ ap (λ b. b || (list_any (λ (t : List Value × List Value). same_values cells t.0) taken && is_gone schema left foreign cells)) (gone_there schema left foreign cells e.0 (same_values cells e.0) refl)
    ∙ ap (λ b. (is_gone schema left foreign e.0 && same_values cells e.0) || b) (gone_among schema left foreign cells taken)
  where
    or_and : (a b g : Bool) → ((a || b) && g) ≡ ((a && g) || (b && g))
    or_and true b true = refl
    or_and true true false = refl
    or_and true false false = refl
    or_and false b g = refl

-- the row of one key was taken out
pub lost_by_key : (schema : Catalog) (table : TableId) (key : Bor (List Value)) (left : Tables) (spec : TableSpec) (foreign : ForeignSpec) (rows : Rows) → refers_to schema foreign table ≡ true
    → key_lost schema left spec rows foreign key.now ≡ list_any (λ row. is_lost schema (before.Row table key) left spec row.1 foreign) rows
lost_by_key schema table key left spec foreign rows refers =
    sym (and_any (is_gone schema left foreign key.now) (λ (row : List Value × List Value). same_values (cells_of spec row.1 foreign.columns) key.now) rows)
    ∙ any_same (λ (row : List Value × List Value). is_gone schema left foreign key.now && same_values (cells_of spec row.1 foreign.columns) key.now) (λ row. is_lost schema (before.Row table key) left spec row.1 foreign)
    (λ row. sym (ap (λ b. (b && same_values (cells_of spec row.1 foreign.columns) key.now) && is_gone schema left foreign (cells_of spec row.1 foreign.columns)) refers
    ∙ gone_there schema left foreign (cells_of spec row.1 foreign.columns) key.now (same_values (cells_of spec row.1 foreign.columns) key.now) refl)) rows

under_at : (cells : List Value) (e : List Value × List Value) (taken : Rows) (b : Bool) → same_values cells e.0 ≡ b → is_some (row_under taken cells) ≡ list_any (λ t. same_values cells t.0) taken
    → is_some (row_under (e ∷ taken) cells) ≡ (same_values cells e.0 || list_any (λ t. same_values cells t.0) taken)
under_at cells e taken true is rest = rw is refl
under_at cells e taken false is rest = rw is rest

under_any : (cells : List Value) (taken : Rows) → is_some (row_under taken cells) ≡ list_any (λ e. same_values cells e.0) taken
under_any cells [] = refl
under_any cells (e ∷ taken) = under_at cells e taken (same_values cells e.0) refl (under_any cells taken)

-- the rows of several keys were
pub lost_by_keys : (schema : Catalog) (table : TableId) (taken : Bor Places) (left : Tables) (spec : TableSpec) (foreign : ForeignSpec) (rows : Rows) → refers_to schema foreign table ≡ true
    → list_any (λ e. key_lost schema left spec rows foreign e.0) (rows_present taken.now) ≡ list_any (λ row. is_lost schema (before.Rows table taken) left spec row.1 foreign) rows
lost_by_keys schema table taken left spec foreign rows refers =
    any_same (λ (e : List Value × List Value). key_lost schema left spec rows foreign e.0) (λ e. list_any (λ (row : List Value × List Value). is_gone schema left foreign e.0 && same_values (cells_of spec row.1 foreign.columns) e.0) rows)
    (λ e. sym (and_any (is_gone schema left foreign e.0) (λ (row : List Value × List Value). same_values (cells_of spec row.1 foreign.columns) e.0) rows)) (rows_present taken.now)
    ∙ turned (λ (e row : List Value × List Value). is_gone schema left foreign e.0 && same_values (cells_of spec row.1 foreign.columns) e.0) (rows_present taken.now) rows
    ∙ any_same (λ (row : List Value × List Value). list_any (λ (e : List Value × List Value). is_gone schema left foreign e.0 && same_values (cells_of spec row.1 foreign.columns) e.0) (rows_present taken.now))
    (λ row. is_lost schema (before.Rows table taken) left spec row.1 foreign)
    (λ row. sym (ap (λ b. (b && is_some (row_under (rows_present taken.now) (cells_of spec row.1 foreign.columns))) && is_gone schema left foreign (cells_of spec row.1 foreign.columns)) refers
    ∙ ap (λ b. b && is_gone schema left foreign (cells_of spec row.1 foreign.columns)) (under_any (cells_of spec row.1 foreign.columns) (rows_present taken.now))
    ∙ gone_among schema left foreign (cells_of spec row.1 foreign.columns) (rows_present taken.now))) rows

-- the foreign key refers to another table
pub lost_nowhere : (schema : Catalog) (table : TableId) (taken : Bor Places) (left : Tables) (spec : TableSpec) (foreign : ForeignSpec) (rows : Rows) → refers_to schema foreign table ≡ false
    → false ≡ list_any (λ row. is_lost schema (before.Rows table taken) left spec row.1 foreign) rows
lost_nowhere schema table taken left spec foreign [] apart = refl
lost_nowhere schema table taken left spec foreign (row ∷ rows) apart = rw apart (lost_nowhere schema table taken left spec foreign rows apart)

pub lost_elsewhere : (schema : Catalog) (table : TableId) (key : Bor (List Value)) (left : Tables) (spec : TableSpec) (foreign : ForeignSpec) (rows : Rows) → refers_to schema foreign table ≡ false
    → false ≡ list_any (λ row. is_lost schema (before.Row table key) left spec row.1 foreign) rows
lost_elsewhere schema table key left spec foreign [] apart = refl
lost_elsewhere schema table key left spec foreign (row ∷ rows) apart = rw apart (lost_elsewhere schema table key left spec foreign rows apart)

-- the keys at these values tell whether a row has them
pub has_by_keys : (spec : TableSpec) (names : List (List ℕ)) (rows : Rows) (index : ValueIndex) (keys : List (List Value)) (value : List Value) → IsStrictlySortedBy values_cmp (keys_of rows) → IsComplete (row_under rows) index
    → ((cells : List Value) → cells_at index.columns.items cells ≡ cells_of spec cells names) → keys ≡ keys_at index.holders value
    → list_any (λ key. has_there spec names value (row_under rows key)) keys ≡ some_row_has spec names rows value
has_by_keys spec names rows index keys value sorted complete columns found =
    both_ways (list_any here keys) (some_row_has spec names rows value) (from_key here (some_row_has spec names rows value ≡ true) to keys)
    (from_some test (λ e. row_under rows e.0 ≡ Some e.1) (list_any here keys ≡ true) back rows (each_found rows sorted))
  where
    test : List Value × List Value → Bool
    test e = same_values (cells_of spec e.1 names) value

    here : List Value → Bool
    here k = has_there spec names value (row_under rows k)

    to : (k : List Value) → here k ≡ true → list_any test rows ≡ true
    to k is = by (row_under rows k) refl
      where
        by : (o : Option (List Value)) → row_under rows k ≡ o → list_any test rows ≡ true
        by None none = absurd (true≢false (sym is ∙ ap (has_there spec names value) none))
        by (Some r) there = row_passes test rows k r there (ap (has_there spec names value) (sym there) ∙ is)

    back : (e : List Value × List Value) → row_under rows e.0 ≡ Some e.1 → test e ≡ true → list_any here keys ≡ true
    back e there is =
        key_passes here e.0 keys
        (ap (list_any (same_values e.0)) (found ∙ ap (keys_at index.holders) (sym (columns e.1 ∙ same_is (cells_of spec e.1 names) value is))) ∙ complete e.0 e.1 there)
        (ap (has_there spec names value) there ∙ is)
