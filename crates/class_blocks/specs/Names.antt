-- Lists of names that are compared as sets.
use Rattle.std.specs.Prelude.{ℕ, Bool, true, ◌&&◌, List, [], ◌∷◌}
use Rattle.std.specs.List.{list_all}
use Rattle.schema_core.specs.Catalog.{has_name}

abbrev pub same_names : List (List ℕ) → List (List ℕ) → Bool
same_names one other = list_all (has_name other) one && list_all (has_name one) other

-- the names are left open, or are these in any order
abbrev pub allows : List (List ℕ) → List (List ℕ) → Bool
allows [] names = true
allows (first ∷ more) names = same_names (first ∷ more) names
