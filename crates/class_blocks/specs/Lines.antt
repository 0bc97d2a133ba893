-- Lines of classes: a root, and so on down to a class.
use Rattle.std.specs.Prelude.{ℕ, Bool, true, List, [], slice_get, ◌==◌, Option, None, Some}
use Rattle.std.specs.List.{list_any}
use Rattle.base_core.specs.declared.ids.ClassId.{ClassId}

abbrev pub line_or_none : Option (List ClassId) → List ClassId
line_or_none None = []
line_or_none (Some line) = line

-- the line of the class of a number, among those of all classes
abbrev pub line_in : List (List ClassId) → ℕ → List ClassId
line_in lines class = line_or_none (slice_get lines class)

-- the class stands in the line
abbrev pub has_class : List ClassId → ℕ → Bool
has_class line class = list_any (λ other. other.0 == class) line

-- there is no owner, or it is a class of the line
abbrev pub is_above : Option ℕ → List ClassId → Bool
is_above None line = true
is_above (Some owner) line = has_class line owner
