-- What is written once all rows stand, row by row and table by table.
use Rattle.std.proofs.Common.{◌≡◌, ℕ, suc, zero, ◌+◌, ◌<◌, ◌≤◌, Bool, true, false, cond, List, [], ◌∷◌, ◌++◌, length, map, get_or, take, Some, refl, sym, ap, ◌∙◌, subst, arith}
use Rattle.std.proofs.lemmas.Grind.{flat_map-append}
use Rattle.std.proofs.lemmas.List.{length-map, map-append, take_all}
use Rattle.std.proofs.lemmas.List.FromFn.{get_or-map-range_with_len, length-map-range_with_len}
use Rattle.std.proofs.lemmas.Option.{get_or_from_slice_get}
use Rattle.std.specs.Prelude.{slice_index_or}
use Rattle.std.specs.List.{filter, flat_map, slice_get}
use Rattle.base_core.specs.declared.ids.TableId.{TableId}
use Rattle.schema_core.specs.declared.changes.Planned.{Planned}
use Rattle.schema_core.specs.declared.changes.RowChanges.{RowChanges}
use Rattle.schema_core.specs.Catalog.{Catalog}
use Rattle.schema_core.specs.DependencyOrder.{table_ids}
use Rattle.flush_plan.specs.Planning.{late_in, late_writings, no_writing}
use Rattle.flush_writes.specs.Writes.{Writing, cells_when, late_gone, writing_some}
use Rattle.flush_order.specs.Ready.{AreInRange}
use Rattle.flush_writes.proofs.UpdateSteps.{mapped_more, take_one}

-- ---- what is written late

filter_fewer : {A : Type 0} (p : A → Bool) (xs : List A) → length (filter p xs) ≤ length xs
filter_fewer p [] = omega arith
filter_fewer p (x ∷ xs) = by (p x) (filter_fewer p xs)
  where
    by : (b : Bool) → length (filter p xs) ≤ length xs → length (cond b (x ∷ filter p xs) (filter p xs)) ≤ suc (length xs)
    by true more = omega (arith, more)
    by false more = omega (arith, more)

pub late_fewer : (schema : Catalog) (changes : RowChanges) → AreInRange schema changes → length (late_writings schema changes) ≤ 4294967295
late_fewer schema changes range =
    let all : length (map (cells_when schema changes true) changes.changed ++ map (late_gone schema changes) changes.gone) ≡ length changes.changed + length changes.gone =
    by_append (map (cells_when schema changes true) changes.changed) (map (late_gone schema changes) changes.gone) (length changes.changed) (length changes.gone) (length-map changes.changed (cells_when schema changes true)) (length-map changes.gone (late_gone schema changes)) in
    omega (arith, all, range.fewer, filter_fewer writing_some (map (cells_when schema changes true) changes.changed ++ map (late_gone schema changes) changes.gone))
  where
    by_append : (xs ys : List Writing) (m n : ℕ) → length xs ≡ m → length ys ≡ n → length (xs ++ ys) ≡ m + n
    by_append [] ys m n e f = omega (arith, e, f)
    by_append (x ∷ xs) ys zero n e f = absurd (omega (arith, e))
    by_append (x ∷ xs) ys (suc m) n e f = omega (arith, by_append xs ys m n (omega (arith, e)) f)

pub old_fewer : (schema : Catalog) (changes : RowChanges) (writings : List Writing) → writings ≡ late_writings schema changes → AreInRange schema changes → length writings ≤ 4294967295
old_fewer schema changes writings e range = subst (λ ws. length ws ≤ 4294967295) (sym e) (late_fewer schema changes range)

pub ruleset place_steps = (length-map)

pub old_more : (writings : List Writing) (numbers : List ℕ) (i d : ℕ) (writing : Writing) → i < length numbers → slice_get writings (get_or numbers i d) ≡ Some writing → map (λ number. slice_index_or writings number no_writing) (take (i + 1) numbers) ≡ map (λ number. slice_index_or writings number no_writing) (take i numbers) ++ writing ∷ []
old_more writings numbers i d writing h e = mapped_more (λ number. slice_index_or writings number no_writing) numbers i d writing h (get_or_from_slice_get writings (get_or numbers i d) writing no_writing e)

-- ---- table by table

table_at : (schema : Catalog) (n : ℕ) → n < length schema.tables → get_or (table_ids schema) n (record { 0 = n }) ≡ record { 0 = n }
table_at schema n h = get_or-map-range_with_len (λ number. record { 0 = number }) 0 (length schema.tables) n n (record { 0 = n }) h (omega arith)

append_nothing : (xs : List Planned) → xs ++ [] ≡ xs
append_nothing [] = refl
append_nothing (x ∷ xs) = ap (λ ys. x ∷ ys) (append_nothing xs)

pub table_more : (schema : Catalog) (f : TableId → List Planned) (n : ℕ) → n < length schema.tables → flat_map f (take (n + 1) (table_ids schema)) ≡ flat_map f (take n (table_ids schema)) ++ f (record { 0 = n })
table_more schema f n h =
    let table : TableId = record { 0 = n } in
    let inside : n < length (table_ids schema) = rw length-map-range_with_len h in
    ap (flat_map f) (take_one (table_ids schema) n table inside ∙ ap (λ t. take n (table_ids schema) ++ t ∷ []) (table_at schema n h))
    ∙ flat_map-append f (take n (table_ids schema)) (table ∷ [])
    ∙ ap (λ ps. flat_map f (take n (table_ids schema)) ++ ps) (append_nothing (f table))

pub late_end : (schema : Catalog) (changes : RowChanges) (order : List ℕ) (n : ℕ) → length schema.tables ≤ n → flat_map (late_in schema changes order) (take n (table_ids schema)) ≡ flat_map (late_in schema changes order) (table_ids schema)
late_end schema changes order n h =
    let k : length (table_ids schema) ≤ n = rw length-map-range_with_len h in
    ap (flat_map (late_in schema changes order)) (take_all n (table_ids schema) k)
