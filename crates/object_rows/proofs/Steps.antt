-- Steps of loops over numbers and tables.
use Rattle.std.proofs.Common.{◌≡◌, ℕ, ◌+◌, ◌<◌, ◌≤◌, List, [], ◌∷◌, ◌++◌, length, drop, refl, sym, ap, ◌∙◌, append_assoc, arith}
use Rattle.std.specs.List.{flat_map, range_with_len}
use Rattle.std.proofs.lemmas.List.{drop_all, drop_more}
use Rattle.std.proofs.lemmas.List.FromFn.{get_or-map-range_with_len, get_or-range_with_len, length-map-range_with_len, length-range_with_len}
use Rattle.base_core.specs.declared.ids.TableId.{TableId}
use Rattle.schema_core.specs.Catalog.{Catalog}
use Rattle.class_mapping.specs.Mapped.{Mapped}
use Rattle.schema_core.specs.DependencyOrder.{table_ids}
use Rattle.object_rows.specs.Late.{late_in, late_keys}

-- ---- numbers

pub range_left : (m n : ℕ) → n < m → drop n (range_with_len 0 m) ≡ n ∷ drop (n + 1) (range_with_len 0 m)
range_left m n h =
    let inside : n < length (range_with_len 0 m) = rw (length-range_with_len 0 m) h in
    let at : 0 + n ≡ n = omega arith in
    drop_more (range_with_len 0 m) n n inside ∙ ap (λ k. k ∷ drop (n + 1) (range_with_len 0 m)) (get_or-range_with_len 0 m n n h ∙ at)

pub range_done : (m n : ℕ) → m ≤ n → drop n (range_with_len 0 m) ≡ []
range_done m n h =
    let ended : length (range_with_len 0 m) ≤ n = rw (length-range_with_len 0 m) h in
    drop_all n (range_with_len 0 m) ended

pub ruleset range_steps = (range_left, range_done)

-- ---- tables

abbrev table_numbered : ℕ → TableId
table_numbered number = record { 0 = number }

pub tables_left : (schema : Catalog) (n : ℕ) → n < length schema.tables → drop n (table_ids schema) ≡ record { 0 = n } ∷ drop (n + 1) (table_ids schema)
tables_left schema n h =
    let inside : n < length (table_ids schema) = rw length-map-range_with_len h in
    drop_more (table_ids schema) n (record { 0 = n }) inside
    ∙ ap (λ table. table ∷ drop (n + 1) (table_ids schema)) (get_or-map-range_with_len table_numbered 0 (length schema.tables) n n (record { 0 = n }) h (omega arith))

pub tables_done : (schema : Catalog) (n : ℕ) → length schema.tables ≤ n → drop n (table_ids schema) ≡ []
tables_done schema n h =
    let ended : length (table_ids schema) ≤ n = rw length-map-range_with_len h in
    drop_all n (table_ids schema) ended

pub ruleset table_steps = (tables_left, tables_done)

pub turn : {A : Type 0} (keys new part rest left whole : List A) → new ≡ keys ++ part → left ≡ part ++ rest → keys ++ left ≡ whole → new ++ rest ≡ whole
turn keys new part rest left whole e f g = ap (λ xs. xs ++ rest) e ∙ append_assoc keys part rest ∙ ap (λ xs. keys ++ xs) (sym f) ∙ g

append_nothing : {A : Type 0} (xs : List A) → xs ++ [] ≡ xs
append_nothing [] = refl
append_nothing (x ∷ xs) = ap (λ ys. x ∷ ys) (append_nothing xs)

pub keys_done : (mapped : Mapped) (keys : List (TableId × ℕ)) (n : ℕ) → length mapped.schema.tables ≤ n → keys ++ flat_map (late_in mapped) (drop n (table_ids mapped.schema)) ≡ flat_map (late_in mapped) (table_ids mapped.schema) → keys ≡ late_keys mapped
unfolding late_keys
keys_done mapped keys n h so_far =
    sym (append_nothing keys) ∙ sym (ap (λ ts. keys ++ flat_map (late_in mapped) ts) (tables_done mapped.schema n h)) ∙ so_far
