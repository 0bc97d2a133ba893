-- The keys of the rows that a DELETE takes.
use Rattle.std.proofs.Common.{◌≡◌, Bool, true, false, List, [], ◌∷◌, ◌++◌, Option, None, is_some, Ok, Err, if◌then◌else◌, refl, sym, ap, ◌∙◌, append-nil, append_assoc}
use Rattle.std.specs.declared.cmp.Ordering.{Ordering}
use Rattle.std.specs.declared.cmp.Ordering.TheVariants.{Less, Equal, Greater}
use Rattle.std.specs.Ordering.{is_eq}
use Rattle.std.specs.BTreeMap.{is_at}
use Rattle.std.specs.Map.{keys_of}
use Rattle.std.specs.List.Sorted.{IsStrictlySortedBy}
use Rattle.std.proofs.lemmas.Bool.{true≢false}
use Rattle.std.proofs.lemmas.Map.{lookup-none}
use Rattle.std.proofs.lemmas.Map.Entries.{none_below_head}
use Rattle.std.proofs.lemmas.Map.Keys.{sorted_tail}
use Rattle.base_core.proofs.Exact.{exact_values, values_total}
use Rattle.base_core.specs.declared.ids.TableId.{TableId}
use Rattle.base_core.specs.declared.value.Value.{Value}
use Rattle.base_core.specs.Order.{values_cmp}
use Rattle.schema_core.specs.Tables.{Rows, Tables, row_under, without_row}
use Rattle.expr_types.specs.declared.expr.Expr.{Expr}
use Rattle.sql_semantics.specs.Checked.{Checked, ◌>>=◌}
use Rattle.sql_semantics.specs.Created.{bare}
use Rattle.sql_semantics.specs.Applied.{named_in}
use Rattle.sql_semantics.specs.Rows.{require_created}
use Rattle.sql_semantics.specs.Taken.{deleted_from, takes}
use Rattle.table_rows.proofs.Entries.{same_key}
use Rattle.table_store.specs.Taken.{AreKeysOf, keys_chosen}
use Rattle.table_store.specs.Written.{keys_to_remove}

-- a key of a row behind the first is not the first one's
later_key : (row : List Value × List Value) (rows : Rows) (key : List Value) → IsStrictlySortedBy values_cmp (keys_of (row ∷ rows)) → is_some (row_under rows key) ≡ true → is_at (values_cmp key) row.0 ≡ false
unfolding IsStrictlySortedBy
later_key row rows key sorted there = at (values_cmp key row.0) refl
  where
    none : (rs : Rows) → IsStrictlySortedBy values_cmp (keys_of (row ∷ rs)) → row_under rs row.0 ≡ None
    none [] sorted = refl
    none (e ∷ es) sorted = lookup-none (is_at (values_cmp row.0)) (e ∷ es) (none_below_head values_total row.0 e es (sorted_tail values_cmp row.0 (keys_of (e ∷ es)) sorted) sorted.0.0)

    at : (r : Ordering) → values_cmp key row.0 ≡ r → is_at (values_cmp key) row.0 ≡ false
    at Less is = rw is refl
    at Greater is = rw is refl
    at Equal is = absurd (true≢false (sym there ∙ ap (λ k. is_some (row_under rows k)) (exact_values key row.0 is) ∙ ap is_some (none rows sorted)))

-- the first of the keys has its row, and the others are those of rows that are left
pub first_key : (rows : Rows) (key : List Value) (more : List (List Value)) → IsStrictlySortedBy values_cmp (keys_of rows) → AreKeysOf rows (key ∷ more) → (is_some (row_under rows key) ≡ true) × AreKeysOf (without_row rows key) more
first_key rows key more sorted are = by are.choice rows sorted are.keys_are
  where
    here : (row : List Value × List Value) (rest : Rows) (choice : List Bool) → key ≡ row.0 → more ≡ keys_chosen choice rest → is_at (values_cmp key) row.0 ≡ true
        → (is_some (row_under (row ∷ rest) key) ≡ true) × AreKeysOf (without_row (row ∷ rest) key) more
    here row rest choice same are is = rw is (refl, record { choice = choice; keys_are = are })

    behind : (row : List Value × List Value) (rest : Rows) → is_at (values_cmp key) row.0 ≡ false → (is_some (row_under rest key) ≡ true) × AreKeysOf (without_row rest key) more
        → (is_some (row_under (row ∷ rest) key) ≡ true) × AreKeysOf (without_row (row ∷ rest) key) more
    behind row rest apart found = rw apart (found.0, record { choice = false ∷ found.1.choice; keys_are = found.1.keys_are })

    by : (choice : List Bool) (rest : Rows) → IsStrictlySortedBy values_cmp (keys_of rest) → key ∷ more ≡ keys_chosen choice rest → (is_some (row_under rest key) ≡ true) × AreKeysOf (without_row rest key) more
    by [] rest sorted is = cc
    by (true ∷ choice) [] sorted is = cc
    by (false ∷ choice) [] sorted is = cc
    by (true ∷ choice) (row ∷ rest) sorted is =
        let same : key ≡ row.0 = cc in
        let others : more ≡ keys_chosen choice rest = cc in
        here row rest choice same others (ap (λ k. is_at (values_cmp key) k) (sym same) ∙ ap is_eq (same_key values_total key))
    by (false ∷ choice) (row ∷ rest) sorted is =
        let found = by choice rest (sorted_tail values_cmp row.0 (keys_of rest) sorted) is in
        behind row rest (later_key row rest key sorted found.0) found

-- the keys that a DELETE takes are those of some of the rows
taken_keys : (tables : List (TableId × List (List Value))) (filter : Option Expr) (rows : Rows) (done keys : List (List Value)) → deleted_from tables filter done rows ≡ Ok keys
    → (choice : List Bool) × (keys ≡ done ++ keys_chosen choice rows)
taken_keys tables filter [] done keys is = let same : keys ≡ done = cc in ([], same ∙ sym (append-nil done))
taken_keys tables filter (entry ∷ rows) done keys is = at (takes tables filter entry.1) is (λ more e. taken_keys tables filter rows more keys e)
  where
    at : (taken : Checked Bool) → (taken >>= λ t. deleted_from tables filter (if t then done ++ entry.0 ∷ [] else done) rows) ≡ Ok keys
        → ((more : List (List Value)) → deleted_from tables filter more rows ≡ Ok keys → (choice : List Bool) × (keys ≡ more ++ keys_chosen choice rows))
        → (choice : List Bool) × (keys ≡ done ++ keys_chosen choice (entry ∷ rows))
    at (Ok true) is again = let rest = again (done ++ entry.0 ∷ []) is in (true ∷ rest.0, rest.1 ∙ append_assoc done (entry.0 ∷ []) (keys_chosen rest.0 rows))
    at (Ok false) is again = let rest = again done is in (false ∷ rest.0, rest.1)
    at (Err e) is again = cc

then_only : {A B : Type 0} (first : Checked A) (next : Checked B) (b : B) → (first >>= λ _. next) ≡ Ok b → next ≡ Ok b
then_only (Ok a) next b is = is
then_only (Err e) next b is = cc

pub keys_removed : (tables : Tables) (filter : Option Expr) (rows : Rows) (keys : List (List Value)) → keys_to_remove tables filter rows ≡ Ok keys → AreKeysOf rows keys
keys_removed tables filter rows keys is =
    let taken = taken_keys (bare tables) filter rows [] keys (then_only (require_created (bare tables) (named_in [] filter)) (deleted_from (bare tables) filter [] rows) keys is) in
    record { choice = taken.0; keys_are = taken.1 }
