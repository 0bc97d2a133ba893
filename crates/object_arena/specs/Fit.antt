-- When the objects of a graph fit a mapping.
use Rattle.std.specs.Prelude.{◌≡◌, ◌-◌, Bool, true, false, not, ◌&&◌, ◌||◌, ◌==◌, nat_lt, List, [], ◌∷◌, length, map, slice_get, slice_index_or, Option, None, Some}
use Rattle.std.specs.List.{All, list_all}
use Rattle.std.specs.Cmp.Lexicographic.{pointwise}
use Rattle.base_core.specs.declared.ids.AttrNo.{AttrNo}
use Rattle.base_core.specs.declared.ids.ClassId.{ClassId}
use Rattle.base_core.specs.declared.ids.ObjId.{ObjId}
use Rattle.base_core.specs.declared.ids.RelNo.{RelNo}
use Rattle.base_core.specs.declared.value.Kind.{Kind}
use Rattle.base_core.specs.declared.value.Value.{Value}
use Rattle.schema_core.specs.Catalog.{same_kind}
use Rattle.schema_core.specs.Tables.{kind_of_value}
use Rattle.class_types.specs.declared.declared.Cascade.{Cascade}
use Rattle.class_types.specs.declared.mapped.Attribute.{Attribute}
use Rattle.class_types.specs.declared.mapped.Relation.{Relation}
use Rattle.class_mapping.specs.Mapped.{IsClass, Mapped, attribute_of, attributes_of, key_attributes, relations_of, root_of}
use Rattle.object_arena.specs.declared.object.Cell.{Cell}
use Rattle.object_arena.specs.declared.object.Link.{Link}
use Rattle.object_arena.specs.declared.object.Link.TheVariants.{Unset, Unloaded, One, Many}
use Rattle.object_arena.specs.declared.object.Object.{Object}
use Rattle.object_arena.specs.Every.{classes_of}
use Rattle.object_arena.specs.Graph.{Graph, place_of}

-- NULL, or of the kind
abbrev pub is_of_kind : Kind → Option Kind → Bool
is_of_kind wanted None = true
is_of_kind wanted (Some found) = same_kind wanted found

-- no value, or NULL, or of the attribute's kind
abbrev pub value_fits : Attribute → Option Value → Bool
value_fits attribute None = true
value_fits attribute (Some value) = is_of_kind attribute.kind (kind_of_value value)

abbrev pub cell_fits : Attribute → Cell → Bool
cell_fits attribute cell = value_fits attribute cell.value && value_fits attribute cell.base

-- a value of the kind, and not NULL
abbrev pub is_just_of_kind : Kind → Option Kind → Bool
is_just_of_kind wanted None = false
is_just_of_kind wanted (Some found) = same_kind wanted found

-- a value of a key, of its column's kind and not NULL
abbrev pub key_value_fits : Mapped → ClassId → AttrNo → Value → Bool
key_value_fits mapped class attr value = is_just_of_kind (attribute_of mapped class attr).kind (kind_of_value value)

-- a key has one value for each key column of the class's root table
abbrev pub key_fits : Mapped → ClassId → List Value → Bool
key_fits mapped class key = pointwise (key_value_fits mapped class) (key_attributes mapped class) key

abbrev pub identity_fits : Mapped → ClassId → Option (List Value) → Bool
identity_fits mapped class None = true
identity_fits mapped class (Some key) = key_fits mapped class key

-- the object has one cell for each attribute and one link for each relationship of its class, and its values fit
pub record ObjectFits (mapped : Mapped) (object : Object) : Type 0 where
  pub class : IsClass mapped object.class
  pub cells : pointwise cell_fits (attributes_of mapped object.class) object.cells ≡ true
  pub identity : identity_fits mapped object.class object.identity ≡ true
  pub links : length object.links ≡ length (relations_of mapped object.class)

-- ---- what links hold, where the objects that were made have these root classes

abbrev pub is_root : ClassId → Option ClassId → Bool
is_root root None = false
is_root root (Some own) = own.0 == root.0

-- the object has been made, and is of the root's hierarchy
abbrev pub is_of_root : List ClassId → ClassId → ObjId → Bool
is_of_root roots root object = nat_lt 0 object.0 && is_root root (slice_get roots (place_of object))

abbrev pub is_empty : {X : Type 0} → List X → Bool
is_empty [] = true
is_empty (x ∷ xs) = false

abbrev pub end_fits : List ClassId → ClassId → Option ObjId → Bool
end_fits roots root None = true
end_fits roots root (Some end) = is_of_root roots root end

-- Objects of the target's hierarchy alone. Only a collection has members, a base or kept changes, and only another link
-- has one end.
abbrev pub held_fit : List ClassId → ClassId → Bool → Link → Bool
held_fit roots root many Unset = true
held_fit roots root many (Unloaded added removed) =
    ((is_empty added && is_empty removed) || many) && (list_all (is_of_root roots root) added && list_all (is_of_root roots root) removed)
held_fit roots root many (One end changed) = not many && end_fits roots root end
held_fit roots root many (Many members base) = many && (list_all (is_of_root roots root) members && list_all (is_of_root roots root) base)

abbrev pub link_fits : Mapped → List ClassId → Relation → Link → Bool
link_fits mapped roots relation link = held_fit roots (root_of mapped relation.target) relation.many link

-- the object's links fit the relationships of its class
abbrev pub links_fit : Mapped → List ClassId → Object → Bool
links_fit mapped roots object = pointwise (link_fits mapped roots) (relations_of mapped object.class) object.links

-- a relationship of no name
abbrev pub no_relation : Relation
no_relation = record {
  name = [];
  class = record { 0 = 0 };
  target = record { 0 = 0 };
  many = false;
  foreign = (record { 0 = 0 }, 0);
  far = None;
  partner = record { 0 = 0 };
  cascade = record { save_update = false; merge = false; refresh_expire = false; expunge = false; delete = false; delete_orphan = false };
  post_update = false;
}

-- the relationship at a place of a class
abbrev pub relation_of : Mapped → ClassId → RelNo → Relation
relation_of mapped class relation = slice_index_or (relations_of mapped class) relation.0 no_relation

-- all objects fit the mapping
pub record IsFit (mapped : Mapped) (graph : Graph) : Type 0 where
  pub objects : All (ObjectFits mapped) graph.objects
  pub roots : graph.roots ≡ map (λ object. root_of mapped object.class) graph.objects
  pub links : All (λ object. links_fit mapped graph.roots object ≡ true) graph.objects

-- ---- what every call keeps

-- objects that fit a mapping go on to fit it, and each is of its class
pub record Keeps (old new : Graph) : Type 0 where
  pub fits : (mapped : Mapped) → IsFit mapped old → IsFit mapped new
  pub classes : classes_of new ≡ classes_of old

-- the same of a call that puts something in: they go on to fit the mappings that it fits
pub record KeepsWith (Fits : Mapped → Type 0) (old new : Graph) : Type 0 where
  pub fits : (mapped : Mapped) → Fits mapped → IsFit mapped old → IsFit mapped new
  pub classes : classes_of new ≡ classes_of old
