-- Steps of a search for unique values in an index.
use Rattle.std.proofs.Common.{◌≡◌, ℕ, Bool, true, false, not, ◌&&◌, ◌||◌, cond, List, [], ◌∷◌, Option, None, Some, is_some, refl, sym, ap, ◌∙◌}
use Rattle.std.proofs.lemmas.Bool.{true≢false}
use Rattle.std.specs.List.{AllByRecursion, list_any}
use Rattle.std.specs.Cmp.{both_ways}
use Rattle.std.specs.declared.cmp.Ordering.TheVariants.{Less, Greater}
use Rattle.std.specs.Ordering.{ordering_reverse}
use Rattle.std.specs.List.Sorted.{IsStrictlySortedBy}
use Rattle.std.proofs.lemmas.Map.Keys.{sorted_head, sorted_tail}
use Rattle.std.specs.Map.{keys_of}
use Rattle.base_core.proofs.Tests.{and_none, and_then, or_first, or_then, or_rest}
use Rattle.schema_core.proofs.AnySteps.{any_never}
use Rattle.base_core.proofs.Exact.{values_total}
use Rattle.base_core.specs.declared.ids.TableId.{TableId}
use Rattle.base_core.specs.declared.value.Value.{Value}
use Rattle.base_core.specs.Order.{values_cmp}
use Rattle.schema_core.specs.declared.table.TableSpec.{TableSpec}
use Rattle.schema_core.specs.Judged.{some_repeats}
use Rattle.schema_core.specs.Tables.{Rows, Tables, cells_of, collide, has_null, row_under, rows_in, same_values}
use Rattle.table_index.specs.declared.index.ValueIndex.{ValueIndex}
use Rattle.table_index.specs.Indexed.{IsComplete, cells_at, keys_at}
use Rattle.table_index.proofs.Entered.{same_is}
use Rattle.table_rows.proofs.Entries.{same_key}
use Rattle.row_judging.specs.Holders.{collides_there, is_held, some_key_collides}

-- each of the rows in order stands under its key
later_found : (first : List Value × List Value) (rows some : Rows) → AllByRecursion (λ q. values_cmp first.0 q ≡ Less) (keys_of some) → AllByRecursion (λ e. row_under rows e.0 ≡ Some e.1) some → AllByRecursion (λ e. row_under (first ∷ rows) e.0 ≡ Some e.1) some
later_found first rows [] above each = tt
later_found first rows (e ∷ some) above each = (by (values_total.antisymm e.0 first.0 ∙ ap ordering_reverse above.0), later_found first rows some above.1 each.1)
  where
    by : values_cmp e.0 first.0 ≡ Greater → row_under (first ∷ rows) e.0 ≡ Some e.1
    by is = rw is each.0

pub each_found : (rows : Rows) → IsStrictlySortedBy values_cmp (keys_of rows) → AllByRecursion (λ e. row_under rows e.0 ≡ Some e.1) rows
each_found [] sorted = tt
each_found (e ∷ rows) sorted = (rw (same_key values_total e.0) refl, later_found e rows rows (sorted_head values_cmp e.0 (keys_of rows) sorted) (each_found rows (sorted_tail values_cmp e.0 (keys_of rows) sorted)))

-- a key of the list passes where it passes
pub key_passes : (test : List Value → Bool) (q : List Value) (keys : List (List Value)) → list_any (same_values q) keys ≡ true → test q ≡ true → list_any test keys ≡ true
key_passes test q [] there passes = cc
key_passes test q (k ∷ keys) there passes = by (same_values q k) refl (λ later. key_passes test q keys later passes)
  where
    by : (b : Bool) → same_values q k ≡ b → (list_any (same_values q) keys ≡ true → list_any test keys ≡ true) → (test k || list_any test keys) ≡ true
    by true e rest = or_first (test k) (list_any test keys) (ap test (sym (same_is q k e)) ∙ passes)
    by false e rest = or_then (test k) (list_any test keys) (rest (or_rest (same_values q k) (list_any (same_values q) keys) there e))

-- a row that stands under a key passes where it passes
pub row_passes : (test : List Value × List Value → Bool) (rows : Rows) (q r : List Value) → row_under rows q ≡ Some r → test (q, r) ≡ true → list_any test rows ≡ true
row_passes test [] q r there passes = cc
row_passes test (e ∷ rows) q r there passes = by (same_values q e.0) refl (λ later. row_passes test rows q r later passes)
  where
    by : (b : Bool) → same_values q e.0 ≡ b → (row_under rows q ≡ Some r → list_any test rows ≡ true) → (test e || list_any test rows) ≡ true
    by true is rest =
        let row : Some e.1 ≡ Some r = sym (ap (λ b. cond b (Some e.1) (row_under rows q)) is) ∙ there in
        let it : e.1 ≡ r = cc in
        or_first (test e) (list_any test rows) (ap (λ k. test (k, e.1)) (sym (same_is q e.0 is)) ∙ ap (λ v. test (q, v)) it ∙ passes)
    by false is rest = or_then (test e) (list_any test rows) (rest (sym (ap (λ b. cond b (Some e.1) (row_under rows q)) is) ∙ there))

-- what each of some entries that passes leads to
pub from_some : (test : List Value × List Value → Bool) (P : List Value × List Value → Type 0) (Q : Type 0) → ((e : List Value × List Value) → P e → test e ≡ true → Q) → (some : Rows) → AllByRecursion P some → list_any test some ≡ true → Q
from_some test P Q leads [] each there = cc
from_some test P Q leads (e ∷ some) each there = by (test e) refl (λ later. from_some test P Q leads some each.1 later)
  where
    by : (b : Bool) → test e ≡ b → (list_any test some ≡ true → Q) → Q
    by true is rest = leads e each.0 is
    by false is rest = rest (or_rest (test e) (list_any test some) there is)

pub from_key : (test : List Value → Bool) (Q : Type 0) → ((k : List Value) → test k ≡ true → Q) → (keys : List (List Value)) → list_any test keys ≡ true → Q
from_key test Q leads [] there = cc
from_key test Q leads (k ∷ keys) there = by (test k) refl (λ later. from_key test Q leads keys later)
  where
    by : (b : Bool) → test k ≡ b → (list_any test keys ≡ true → Q) → Q
    by true is rest = leads k is
    by false is rest = rest (or_rest (test k) (list_any test keys) there is)

-- the keys at the row's value tell whether another row collides with it
pub held_by_keys : (spec : TableSpec) (unique : List (List ℕ)) (rows : Rows) (index : ValueIndex) (keys : List (List Value)) (key row : List Value) → IsStrictlySortedBy values_cmp (keys_of rows) → IsComplete (row_under rows) index
    → ((cells : List Value) → cells_at index.columns.items cells ≡ cells_of spec cells unique) → keys ≡ keys_at index.holders (cells_of spec row unique)
    → some_key_collides spec unique rows keys key row ≡ is_held spec unique rows key row
held_by_keys spec unique rows index keys key row sorted complete columns found =
    both_ways (some_key_collides spec unique rows keys key row) (is_held spec unique rows key row)
    (from_key here (is_held spec unique rows key row ≡ true) to keys)
    (from_some test (λ e. row_under rows e.0 ≡ Some e.1) (some_key_collides spec unique rows keys key row ≡ true) back rows (each_found rows sorted))
  where
    test : List Value × List Value → Bool
    test e = not (same_values key e.0) && collide spec unique row e.1

    here : List Value → Bool
    here k = not (same_values key k) && collides_there spec unique row (row_under rows k)

    to : (k : List Value) → here k ≡ true → list_any test rows ≡ true
    to k is = by (row_under rows k) refl
      where
        by : (o : Option (List Value)) → row_under rows k ≡ o → list_any test rows ≡ true
        by None none = absurd (true≢false (sym (and_then (not (same_values key k)) (collides_there spec unique row (row_under rows k)) is) ∙ ap (collides_there spec unique row) none))
        by (Some r) there = row_passes test rows k r there (ap (λ o. not (same_values key k) && collides_there spec unique row o) (sym there) ∙ is)

    back : (e : List Value × List Value) → row_under rows e.0 ≡ Some e.1 → test e ≡ true → list_any here keys ≡ true
    back e there is =
        let collides : collide spec unique row e.1 ≡ true = and_then (not (same_values key e.0)) (collide spec unique row e.1) is in
        let same : cells_of spec row unique ≡ cells_of spec e.1 unique = same_is (cells_of spec row unique) (cells_of spec e.1 unique) (and_then (not (has_null (cells_of spec row unique))) (same_values (cells_of spec row unique) (cells_of spec e.1 unique)) collides) in
        key_passes here e.0 keys
        (ap (list_any (same_values e.0)) (found ∙ ap (keys_at index.holders) (same ∙ sym (columns e.1))) ∙ complete e.0 e.1 there)
        (ap (λ o. not (same_values key e.0) && collides_there spec unique row o) there ∙ is)

-- a row with a NULL collides with none
null_collides : (spec : TableSpec) (unique : List (List ℕ)) (row : List Value) → has_null (cells_of spec row unique) ≡ true → (key : List Value) (rows : Rows) → list_any (λ other. not (same_values key other.0) && collide spec unique row other.1) rows ≡ false
null_collides spec unique row null key [] = refl
null_collides spec unique row null key (other ∷ rows) =
    ap (λ b. b || list_any (λ (e : List Value × List Value). not (same_values key e.0) && collide spec unique row e.1) rows)
    (and_none (not (same_values key other.0)) (collide spec unique row other.1) (ap (λ b. not b && same_values (cells_of spec row unique) (cells_of spec other.1 unique)) null))
    ∙ null_collides spec unique row null key rows

pub held_never : (spec : TableSpec) (unique : List (List ℕ)) (rows : Rows) (key row value : List Value) → value ≡ cells_of spec row unique → has_null value ≡ true → false ≡ is_held spec unique rows key row
held_never spec unique rows key row value is null = sym (null_collides spec unique row (ap has_null (sym is) ∙ null) key rows)

-- ---- constraint by constraint

shuffle : (a b c d : Bool) → ((a || c) || (b || d)) ≡ ((a || b) || (c || d))
shuffle true b c d = refl
shuffle false true true d = refl
shuffle false true false d = refl
shuffle false false c d = refl

or_any : {A : Type 0} (p q : A → Bool) (xs : List A) → (list_any p xs || list_any q xs) ≡ list_any (λ x. p x || q x) xs
or_any p q [] = refl
or_any p q (x ∷ xs) = shuffle (p x) (q x) (list_any p xs) (list_any q xs) ∙ ap (λ b. (p x || q x) || b) (or_any p q xs)

pub turned : {A B : Type 0} (f : A → B → Bool) (xs : List A) (ys : List B) → list_any (λ x. list_any (f x) ys) xs ≡ list_any (λ y. list_any (λ x. f x y) xs) ys
turned f [] ys = sym (any_never ys)
turned f (x ∷ xs) ys = ap (λ b. list_any (f x) ys || b) (turned f xs ys) ∙ or_any (f x) (λ y. list_any (λ z. f z y) xs) ys

pub uniques_first : (spec : TableSpec) (rows entries : Rows) → list_any (λ unique. list_any (λ entry. is_held spec unique rows entry.0 entry.1) entries) spec.uniques ≡ some_repeats spec rows entries
uniques_first spec rows entries = turned (λ unique (entry : List Value × List Value). is_held spec unique rows entry.0 entry.1) spec.uniques entries

-- a created table's rows are there
pub not_there : (tables : Tables) (table : TableId) → is_some (rows_in tables table) ≡ true → None ≡ rows_in tables table → ⊥
not_there tables table created none = true≢false (sym created ∙ ap is_some (sym none))
