-- The values of a key.
use Rattle.std.specs.Prelude.{Bool, false, List, slice_get, Option, None, Some}
use Rattle.base_core.specs.declared.ids.AttrNo.{AttrNo}
use Rattle.base_core.specs.declared.value.Value.{Value}
use Rattle.schema_core.specs.Tables.{kind_of_value}
use Rattle.class_types.specs.declared.mapped.Attribute.{Attribute}
use Rattle.object_arena.specs.Fit.{is_just_of_kind}

abbrev pub is_value_of : Option Attribute → Value → Bool
is_value_of None value = false
is_value_of (Some attribute) value = is_just_of_kind attribute.kind (kind_of_value value)

-- the value is one of the kind of an attribute
abbrev pub is_value : List Attribute → AttrNo → Value → Bool
is_value attributes attr value = is_value_of (slice_get attributes attr.0) value
