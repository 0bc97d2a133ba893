-- Sources behind their places, and tables by their names.
use Rattle.std.proofs.Common.{◌≡◌, ℕ, ◌+◌, suc, List, [], ◌∷◌, ◌++◌, length, Option, Some, None, refl, ap, ◌∙◌, arith}
use Rattle.std.specs.List.{enumerate_from, position}
use Rattle.std.specs.Option.{option_map}
use Rattle.std.proofs.lemmas.List.Quantifiers.{position-Some}
use Rattle.base_core.specs.declared.ids.TableId.{TableId}
use Rattle.schema_core.specs.declared.table.TableSpec.{TableSpec}
use Rattle.schema_core.specs.Catalog.{Catalog, IsTable, find_table, no_table, same_name}
use Rattle.script_types.specs.declared.expression.SynSource.{SynSource}
use Rattle.script_names.specs.Scopes.{outer_scope}

enumerate_push : {A : Type 0} (n : ℕ) (xs : List A) (x : A) → enumerate_from n (xs ++ x ∷ []) ≡ enumerate_from n xs ++ (n + length xs, x) ∷ []
enumerate_push n [] x = ap (λ m. (m, x) ∷ []) (omega arith)
enumerate_push n (y ∷ ys) x = ap (λ es. (n, y) ∷ es) (enumerate_push (n + 1) ys x ∙ ap (λ m. enumerate_from (n + 1) ys ++ (m, x) ∷ []) (omega arith))

enumerate_long : {A : Type 0} (n : ℕ) (xs : List A) → length (enumerate_from n xs) ≡ length xs
enumerate_long n [] = refl
enumerate_long n (x ∷ xs) = ap suc (enumerate_long (n + 1) xs)

-- one more source stands behind the others
pub outer_scope_push : (xs : List SynSource) (x : SynSource) → outer_scope (xs ++ x ∷ []) ≡ outer_scope xs ++ (length (outer_scope xs), x) ∷ []
outer_scope_push xs x =
    let long = enumerate_long 0 xs in
    let place : 0 + length xs ≡ length (enumerate_from 0 xs) = omega arith in
    enumerate_push 0 xs x ∙ ap (λ m. enumerate_from 0 xs ++ (m, x) ∷ []) place

placed_at : (o : Option ℕ) (table : TableId) → option_map (λ place. record { 0 = place }) o ≡ Some table → o ≡ Some table.0
placed_at None table h = cc
placed_at (Some n) table h = cc

-- the table of a name is declared
pub found_is_table : (schema : Catalog) (name : List ℕ) (table : TableId) → find_table schema.tables name ≡ Some table → IsTable schema table
found_is_table schema name table h =
    let named = λ (spec : TableSpec). same_name spec.name name in
    (position-Some named schema.tables table.0 no_table (placed_at (position named schema.tables) table h)).0
