-- What is known of a cell, and which cells stay.
use Rattle.std.specs.Prelude.{Bool, false, ◌&&◌, Option, None, Some, is_some}
use Rattle.std.specs.Ordering.{is_eq}
use Rattle.base_core.specs.declared.ids.AttrNo.{AttrNo}
use Rattle.base_core.specs.declared.value.Value.{Value}
use Rattle.base_core.specs.Order.{value_cmp}
use Rattle.class_mapping.specs.Mapped.{Mapped, is_key_attribute}
use Rattle.object_arena.specs.declared.object.Object.{Object}

-- the value is the one that was last read or written
abbrev pub is_base : Option Value → Value → Bool
is_base None value = false
is_base (Some base) value = is_eq (value_cmp value base)

-- the cell is of the key of an object with an identity
abbrev pub is_kept_cell : Mapped → Object → AttrNo → Bool
is_kept_cell mapped object attr = is_some object.identity && is_key_attribute mapped object.class attr
