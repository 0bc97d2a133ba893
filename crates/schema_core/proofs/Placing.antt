-- Steps of the loops over the declared tables.
use Rattle.std.proofs.Common.{◌≡◌, ℕ, suc, ◌+◌, ◌<◌, ◌≤◌, Bool, true, false, cond, not, ◌&&◌, List, [], ◌∷◌, ◌++◌, map, length, get_or, drop, Option, None, Some, refl, sym, ap, ◌∙◌, add-one, drop-cons, arith}
use Rattle.std.proofs.lemmas.List.{drop_all}
use Rattle.std.proofs.lemmas.List.FromFn.{get_or-map-range_with_len, length-map-range_with_len}
use Rattle.std.specs.List.{find, range_with_len}
use Rattle.std.specs.Option.{option_to_list}
use Rattle.base_core.specs.declared.ids.TableId.{TableId}
use Rattle.schema_core.specs.Catalog.{Catalog}
use Rattle.schema_core.specs.DependencyOrder.{first_tables, next_table, table_ids}

find_at : {A : Type 0} (p : A → Bool) (xs : List A) (i : ℕ) (d : A) → i < length xs → find p (drop i xs) ≡ cond (p (get_or xs i d)) (Some (get_or xs i d)) (find p (drop (i + 1) xs))
find_at p xs i d h = rw (add-one, drop-cons xs i d) refl

at_table : (schema : Catalog) (i : ℕ) → i < length schema.tables → get_or (table_ids schema) i (record { 0 = i }) ≡ record { 0 = i }
at_table schema i h = get_or-map-range_with_len (λ number. record { 0 = number }) 0 (length schema.tables) i i (record { 0 = i }) h (omega arith)

table_at : (schema : Catalog) (p : TableId → Bool) (i : ℕ) → i < length schema.tables → find p (drop i (table_ids schema)) ≡ cond (p (record { 0 = i })) (Some (record { 0 = i })) (find p (drop (i + 1) (table_ids schema)))
table_at schema p i h =
    let k : i < length (table_ids schema) = rw length-map-range_with_len h in
    find_at p (table_ids schema) i (record { 0 = i }) k ∙ ap (λ t. cond (p t) (Some t) (find p (drop (i + 1) (table_ids schema)))) (at_table schema i h)

pub table_found : (schema : Catalog) (p : TableId → Bool) (i : ℕ) → i < length schema.tables → p (record { 0 = i }) ≡ true → find p (drop i (table_ids schema)) ≡ Some (record { 0 = i })
table_found schema p i h passes = table_at schema p i h ∙ ap (λ b. cond b (Some (record { 0 = i })) (find p (drop (i + 1) (table_ids schema)))) passes

pub table_passed : (schema : Catalog) (p : TableId → Bool) (i : ℕ) → i < length schema.tables → p (record { 0 = i }) ≡ false → find p (drop (i + 1) (table_ids schema)) ≡ find p (drop i (table_ids schema))
table_passed schema p i h fails = sym (table_at schema p i h ∙ ap (λ b. cond b (Some (record { 0 = i })) (find p (drop (i + 1) (table_ids schema)))) fails)

pub table_none : (schema : Catalog) (p : TableId → Bool) (i : ℕ) → length schema.tables ≤ i → find p (drop i (table_ids schema)) ≡ None
table_none schema p i h =
    let k : length (table_ids schema) ≤ i = rw length-map-range_with_len h in
    ap (find p) (drop_all i (table_ids schema) k)

pub first_none : (schema : Catalog) → [] ≡ first_tables schema 0
unfolding first_tables
first_none schema = refl

pub first_more : (schema : Catalog) (n : ℕ) (placed : List TableId) → placed ≡ first_tables schema n → placed ++ option_to_list (next_table schema placed) ≡ first_tables schema (n + 1)
unfolding first_tables
first_more schema n placed e = rw (add-one, e) refl

pub ruleset order_steps = (first_none, first_more)

pub ruleset find_steps = (table_found, table_passed, table_none)
