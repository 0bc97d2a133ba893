-- The cells of a foreign key.
use Rattle.std.specs.Prelude.{ℕ, Bool, List, length, map, slice_get, unwrap_or, Option, is_none}
use Rattle.std.specs.Option.{option_and_then}
use Rattle.std.specs.List.{list_any, position}
use Rattle.base_core.specs.declared.ids.AttrNo.{AttrNo}
use Rattle.base_core.specs.declared.ids.ClassId.{ClassId}
use Rattle.base_core.specs.declared.ids.TableId.{TableId}
use Rattle.base_core.specs.declared.value.Value.{Value}
use Rattle.schema_core.specs.Tables.{value_or_null}
use Rattle.class_types.specs.declared.mapped.Attribute.{Attribute}
use Rattle.class_types.specs.declared.mapped.Relation.{Relation}
use Rattle.class_sides.specs.Keys.{names_of}
use Rattle.class_mapping.specs.Mapped.{Mapped, attributes_of}
use Rattle.object_arena.specs.declared.object.Object.{Object}
use Rattle.relations.specs.Parents.{is_column}

-- the attribute of the column of a name; where there is none, a number that no attribute has
abbrev pub attr_named : List Attribute → TableId → List ℕ → AttrNo
attr_named attributes table name = record { 0 = unwrap_or (position (is_column table name) attributes) (length attributes) }

-- the attributes of a class that are the columns of a relationship's foreign key
unfoldable pub foreign_attrs : Mapped → ClassId → Relation → List AttrNo
foreign_attrs mapped class relation = map (attr_named (attributes_of mapped class) relation.foreign.0) (names_of mapped.schema.tables relation.foreign)

-- the value of a cell, unless it is expired
abbrev pub value_of : Object → AttrNo → Option Value
value_of object attr = option_and_then (λ cell. cell.value) (slice_get object.cells attr.0)

-- one of these cells is expired
abbrev pub is_expired_among : List AttrNo → Object → Bool
is_expired_among attrs object = list_any (λ attr. is_none (value_of object attr)) attrs

abbrev pub value_at : Object → AttrNo → Value
value_at object attr = value_or_null (value_of object attr)

-- what these cells hold
abbrev pub values_at : List AttrNo → Object → List Value
values_at attrs object = map (value_at object) attrs

-- the cells of the foreign key of an object
abbrev pub foreign_key : Mapped → Relation → Object → List Value
foreign_key mapped relation object = values_at (foreign_attrs mapped object.class relation) object

-- one of them is expired
abbrev pub is_key_expired : Mapped → Relation → Object → Bool
is_key_expired mapped relation object = is_expired_among (foreign_attrs mapped object.class relation) object
