-- Steps of a search for an item that passes a test.
use Rattle.std.proofs.Common.{◌≡◌, ℕ, ◌+◌, ◌<◌, ◌≤◌, Bool, true, false, cond, ◌||◌, List, [], ◌∷◌, length, get_or, drop, Option, Some, is_some, refl, sym, ap, ◌∙◌, add-one, drop-cons}
use Rattle.std.proofs.lemmas.List.{drop_all, get_or_past}
use Rattle.std.specs.List.{list_any}
use Rattle.base_core.specs.declared.ids.TableId.{TableId}
use Rattle.std.specs.Option.{option_and_then}
use Rattle.base_core.specs.declared.value.Value.{Value}
use Rattle.schema_core.specs.declared.table.ForeignSpec.{ForeignSpec}
use Rattle.schema_core.specs.declared.table.TableSpec.{TableSpec}
use Rattle.schema_core.specs.Catalog.{Catalog, no_table, spec_of, target_of}
use Rattle.schema_core.specs.Tables.{Rows, Tables, has_row, names_row, row_under, rows_in}

any_at : {A : Type 0} (test : A → Bool) (xs : List A) (i : ℕ) (d : A) → i < length xs → list_any test (drop i xs) ≡ (test (get_or xs i d) || list_any test (drop (i + 1) xs))
any_at test xs i d h = rw (add-one, drop-cons xs i d) refl

pub any_found : {A : Type 0} (test : A → Bool) (xs : List A) (i : ℕ) (d : A) → i < length xs → test (get_or xs i d) ≡ true → list_any test (drop i xs) ≡ true
any_found test xs i d h found = any_at test xs i d h ∙ ap (λ b. b || list_any test (drop (i + 1) xs)) found

pub any_next : {A : Type 0} (test : A → Bool) (xs : List A) (i : ℕ) (d : A) → i < length xs → test (get_or xs i d) ≡ false → list_any test (drop (i + 1) xs) ≡ list_any test (drop i xs)
any_next test xs i d h fails = sym (any_at test xs i d h ∙ ap (λ b. b || list_any test (drop (i + 1) xs)) fails)

pub any_none : {A : Type 0} (test : A → Bool) (xs : List A) (i : ℕ) → length xs ≤ i → list_any test (drop i xs) ≡ false
any_none test xs i h = ap (list_any test) (drop_all i xs h)

pub ruleset any_steps = (any_found, any_next, any_none)

-- something is there, first or later
pub some_or : {A : Type 0} (first : Bool) (x : A) (later : Option A) → (first || is_some later) ≡ is_some (cond first (Some x) later)
some_or true x later = refl
some_or false x later = refl

-- where the target is created, a key names a row that stands under it there
pub named : (schema : Catalog) (tables : Tables) (foreign : ForeignSpec) (key : List Value) (target : TableId) (rows : Rows) → target_of schema foreign ≡ Some target → rows_in tables target ≡ Some rows
    → is_some (row_under rows key) ≡ names_row schema tables foreign key
named schema tables foreign key target rows found there =
    sym (ap (λ t. has_row key (option_and_then (rows_in tables) t)) found ∙ ap (has_row key) there)

-- no item passes a test that nothing passes
pub any_never : {A : Type 0} (xs : List A) → list_any (λ x. false) xs ≡ false
any_never [] = refl
any_never (x ∷ xs) = any_never xs

-- a table that is not declared has no foreign keys
pub undeclared : (test : TableSpec → List Value → ForeignSpec → Bool) (schema : Catalog) (table : TableId) (rows : Rows) → length schema.tables ≤ table.0
    → list_any (λ row. list_any (test (spec_of schema table) row.1) (spec_of schema table).foreigns) rows ≡ false
undeclared test schema table rows h = ap (λ spec. list_any (λ row. list_any (test spec row.1) spec.foreigns) rows) (get_or_past schema.tables table.0 no_table h) ∙ any_never rows
