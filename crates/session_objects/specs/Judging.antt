-- Why a value is not given to an attribute: a validator of the attribute does not take it, or the attribute is a discriminator.
use Rattle.std.specs.Prelude.{ℕ, Bool, true, false, List, [], ◌∷◌, slice_get, Option, None, Some}
use Rattle.std.specs.List.{find, list_any}
use Rattle.base_core.specs.declared.ids.AttrNo.{AttrNo}
use Rattle.base_core.specs.declared.ids.ClassId.{ClassId}
use Rattle.base_core.specs.declared.value.Value.{Value}
use Rattle.base_core.specs.declared.refusal.Refusal.{Refusal}
use Rattle.base_core.specs.declared.refusal.Refusal.TheVariants.{InvalidRequestError, ValidationError}
use Rattle.base_core.specs.declared.refusal.RequestKind.TheVariants.{Discriminator}
use Rattle.class_types.specs.Rules.{Rules}
use Rattle.class_types.specs.declared.mapped.Attribute.{Attribute}
use Rattle.class_layouts.specs.Faults.{is_named}
use Rattle.class_mapping.specs.Mapped.{Mapped, attribute_of, attributes_of, class_spec, root_of, validators_of}
use Rattle.object_arena.specs.Graph.{either_fault}
pub use Rattle.object_parts.specs.Validators.{is_taken, is_taken_as, refuses, takes_kind}

-- ---- validators

abbrev pub told_by : ClassId → AttrNo → Option (List ℕ × List ℕ) → Option Refusal
told_by class attr None = None
told_by class attr (Some validator) = Some (ValidationError class attr validator.1)

-- the first validator of the attribute that does not take the value, from the root of the class on
abbrev pub invalid_fault : Rules → Mapped → ClassId → AttrNo → Value → Option Refusal
invalid_fault rules mapped class attr value = told_by class attr (find (refuses rules (attribute_of mapped class attr).name value) (validators_of mapped class))

-- that of the first of some values, as they are given
abbrev pub first_invalid : Rules → Mapped → ClassId → List (AttrNo × Value) → Option Refusal
first_invalid rules mapped class [] = None
first_invalid rules mapped class (given ∷ others) = either_fault (invalid_fault rules mapped class given.0 given.1) (first_invalid rules mapped class others)

-- ---- discriminators

abbrev pub is_named_by : Option (List ℕ) → Option Attribute → Bool
is_named_by name None = false
is_named_by name (Some attribute) = is_named name attribute.name

-- the attribute of a class tells the classes of its hierarchy apart
abbrev pub is_discriminator : Mapped → ClassId → AttrNo → Bool
is_discriminator mapped class attr = is_named_by (class_spec mapped (root_of mapped class)).discriminator (slice_get (attributes_of mapped class) attr.0)

abbrev pub discriminator_if : Bool → Option Refusal
discriminator_if true = Some (InvalidRequestError Discriminator)
discriminator_if false = None

-- one of some values is for the discriminator
abbrev pub discriminator_fault : Mapped → ClassId → List (AttrNo × Value) → Option Refusal
discriminator_fault mapped class given = discriminator_if (list_any (λ one. is_discriminator mapped class one.0) given)
