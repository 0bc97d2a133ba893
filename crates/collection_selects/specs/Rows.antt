-- The values of some cells of an object, as a load reads them.
use Rattle.std.specs.Prelude.{◌≡◌, ℕ, true, List, slice_get, Some}
use Rattle.base_core.specs.declared.ids.AttrNo.{AttrNo}
use Rattle.base_core.specs.declared.ids.ClassId.{ClassId}
use Rattle.base_core.specs.declared.value.Value.{Value}
use Rattle.class_mapping.specs.Mapped.{Mapped, attribute_of}
use Rattle.object_arena.specs.Fit.{value_fits}

-- the value at each attribute's place in a list of attributes is NULL or of the attribute's kind
abbrev pub AreCellsOf : Mapped → ClassId → List AttrNo → List Value → Type 0
AreCellsOf mapped class attrs values = (place : ℕ) (attr : AttrNo) → slice_get attrs place ≡ Some attr → value_fits (attribute_of mapped class attr) (slice_get values place) ≡ true
