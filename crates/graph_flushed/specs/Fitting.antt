-- When what was written, the keys aside, fits the mapping.
use Rattle.std.specs.Prelude.{◌≡◌, ◌<◌, true, false, length, Some}
use Rattle.base_core.specs.declared.ids.AttrNo.{AttrNo}
use Rattle.base_core.specs.declared.ids.ObjId.{ObjId}
use Rattle.base_core.specs.declared.ids.RelNo.{RelNo}
use Rattle.schema_core.specs.Tables.{value_or_null}
use Rattle.class_types.specs.declared.mapped.Attribute.{Attribute}
use Rattle.class_mapping.specs.Mapped.{Mapped, attribute_of, attributes_of, class_spec}
use Rattle.object_arena.specs.Fit.{relation_of, value_fits}
use Rattle.object_arena.specs.Graph.{Graph, IsObject, object_at}
use Rattle.object_rows.specs.declared.prepared.Prepared.{Prepared}
use Rattle.object_rows.specs.Rows.{is_discriminator}
use Rattle.object_rows.specs.Seen.{is_cleared}
use Rattle.graph_flushed.specs.Flushed.{Written, value_come}

-- an object's attribute
abbrev pub attribute_at : Written → ObjId → AttrNo → Attribute
attribute_at written object attr = attribute_of written.mapping (object_at written.graph object).class attr

-- the object has been made, and its class has the attribute
abbrev pub IsCellOf : Written → ObjId → AttrNo → Type 0
IsCellOf written object attr = IsObject written.graph object × (attr.0 < length (attributes_of written.mapping (object_at written.graph object).class))

-- only links to one object are to become none
abbrev pub AreClearable : Mapped → Graph → Prepared → Type 0
AreClearable mapped graph prepared =
    (object : ObjId) (relation : RelNo) → IsObject graph object → is_cleared prepared object relation ≡ true → (relation_of mapped (object_at graph object).class relation).many ≡ false

pub record IsFitting (written : Written) : Type 0 where
  -- what came through links is of its attribute's kind, or NULL
  pub come : (object : ObjId) (attr : AttrNo) → IsCellOf written object attr → value_fits (attribute_at written object attr) (value_come written object (attribute_at written object attr)) ≡ true
  -- so is the identity of a class where an attribute tells it
  pub told : (object : ObjId) (attr : AttrNo) → IsCellOf written object attr
      → is_discriminator written.mapping (object_at written.graph object).class (attribute_at written object attr).table (attribute_at written object attr).name ≡ true
      → value_fits (attribute_at written object attr) (Some (value_or_null (class_spec written.mapping (object_at written.graph object).class).identity)) ≡ true
  pub cleared : AreClearable written.mapping written.graph written.prepared
