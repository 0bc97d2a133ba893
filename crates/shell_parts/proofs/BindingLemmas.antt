-- Bindings by the bytes of their names, and the entries of a map by names.
use Rattle.std.proofs.Common.{◌≡◌, ℕ, true, false, List, [], ◌∷◌, map, cond, Some, if◌then◌else◌, refl, ap}
use Rattle.std.specs.Map.{lookup}
use Rattle.std.specs.Str.{bytes_eq}
use Rattle.std.specs.declared.string.String.{String}
use Rattle.std.specs.String.{string_bytes, string_eq}
use Rattle.indexmap.specs.IndexMap.{insert_entry}
use Rattle.schema_core.specs.Catalog.{same_name}
use Rattle.shell_parts.specs.declared.names.Bound.{Bound}
use Rattle.shell_parts.specs.Bindings.{bind, bound_to, by_bytes}

module _ {Z : Type 0} where
  -- an entry that is put in is a binding
  pub entry_bound : (entries : List (String Z × Bound)) (name : String Z) (bound : Bound) → map by_bytes (insert_entry string_eq entries name bound) ≡ bind (map by_bytes entries) (string_bytes name) bound
  entry_bound [] name bound = refl
  entry_bound (e ∷ es) name bound =
      elim (string_eq name e.0) as (λ b. map by_bytes (if b then (e.0, bound) ∷ es else e ∷ insert_entry string_eq es name bound)
      ≡ (if b then (string_bytes e.0, bound) ∷ map by_bytes es else by_bytes e ∷ bind (map by_bytes es) (string_bytes name) bound))
      [ true ↦ refl | false ↦ ap (λ l. by_bytes e ∷ l) (entry_bound es name bound) ]

  -- an entry that is found is what the name is bound to
  pub entry_found : (entries : List (String Z × Bound)) (name : List ℕ) → lookup (λ k. bytes_eq name (string_bytes k)) entries ≡ bound_to (map by_bytes entries) name
  entry_found [] name = refl
  entry_found (e ∷ es) name = ap (cond (same_name name (string_bytes e.0)) (Some e.1)) (entry_found es name)
