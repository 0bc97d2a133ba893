-- The names that a script has bound, in the order in which they were bound first, each with what it stands for now.
use Rattle.std.specs.Prelude.{ℕ, List, Option}
use Rattle.std.specs.Map.{lookup}
use Rattle.std.specs.declared.string.String.{String}
use Rattle.std.specs.String.{string_bytes}
use Rattle.indexmap.specs.IndexMap.{insert_entry}
use Rattle.schema_core.specs.Catalog.{same_name}
use Rattle.shell_parts.specs.declared.names.Bound.{Bound}

-- the bindings after one more: a name that is bound keeps its place and stands for the new thing, a new name goes last
abbrev pub bind : List (List ℕ × Bound) → List ℕ → Bound → List (List ℕ × Bound)
bind names name bound = insert_entry same_name names name bound

-- what the name stands for
abbrev pub bound_to : List (List ℕ × Bound) → List ℕ → Option Bound
bound_to names name = lookup (same_name name) names

-- an entry by the bytes of its name
abbrev pub by_bytes : {Z : Type 0} → String Z × Bound → List ℕ × Bound
by_bytes entry = (string_bytes entry.0, entry.1)
