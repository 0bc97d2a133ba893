-- What is known of a row that a load read.
use Rattle.std.specs.Prelude.{◌≡◌, ℕ, true, List, [], slice_get, unwrap_or, Some}
use Rattle.base_core.specs.declared.ids.ClassId.{ClassId}
use Rattle.base_core.specs.declared.value.Value.{Value}
use Rattle.class_types.specs.declared.mapped.Attribute.{Attribute}
use Rattle.class_mapping.specs.Mapped.{Mapped, attributes_of}
use Rattle.base_core.specs.declared.ids.ObjId.{ObjId}
use Rattle.object_arena.specs.Fit.{value_fits}
use Rattle.object_arena.specs.Graph.{Graph, object_at}
use Rattle.load_filling.specs.Rows.{HasKeyOf}

-- the value at each attribute's place is NULL or of its kind
abbrev pub AreOfKinds : Mapped → ClassId → List Value → Type 0
AreOfKinds mapped class values = (place : ℕ) (attribute : Attribute) → slice_get (attributes_of mapped class) place ≡ Some attribute → value_fits attribute (slice_get values place) ≡ true

-- a row of a class's attributes, whose key is one of the class that it names
pub record IsRowOf (mapped : Mapped) (class : ClassId) (values : List Value) : Type 0 where
  pub kinds : AreOfKinds mapped class values
  pub key : HasKeyOf mapped class values

-- the key of an object's row
abbrev pub identity_key : Graph → ObjId → List Value
identity_key graph object = unwrap_or (object_at graph object).identity []
