-- The validators of classes and of those that they extend.
use Rattle.std.specs.Prelude.{ℕ, List, [], map, slice_get, Option, None, Some}
use Rattle.std.specs.List.{flat_map}
use Rattle.base_core.specs.declared.ids.ClassId.{ClassId}
use Rattle.class_types.specs.declared.declared.ClassSpec.{ClassSpec}

abbrev pub validators_in : Option ClassSpec → List (List ℕ × List ℕ)
validators_in None = []
validators_in (Some spec) = spec.validators

-- the validators of a class's own block: attributes, each with the name of its validator
abbrev pub validators_at : List ClassSpec → ℕ → List (List ℕ × List ℕ)
validators_at specs class = validators_in (slice_get specs class)

-- those of the class of a line, from its root's on
abbrev pub validators_on : List ClassSpec → List ClassId → List (List ℕ × List ℕ)
validators_on specs line = flat_map (λ class. validators_at specs class.0) line

-- those of each class, where the lines of all classes are given
abbrev pub all_validators : List ClassSpec → List (List ClassId) → List (List (List ℕ × List ℕ))
all_validators specs lines = map (validators_on specs) lines
