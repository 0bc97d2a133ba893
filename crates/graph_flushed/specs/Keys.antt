-- The keys that new objects have once their rows were written.
use Rattle.std.specs.Prelude.{ℕ, Bool, true, false, ◌&&◌, ◌==◌, List, [], map, slice_index_or, Option, None, Some, if◌then◌else◌}
use Rattle.std.specs.List.{position, zip}
use Rattle.std.specs.Option.{option_map}
use Rattle.base_core.specs.declared.ids.ClassId.{ClassId}
use Rattle.base_core.specs.declared.ids.ObjId.{ObjId}
use Rattle.base_core.specs.declared.refusal.RowName.{RowName}
use Rattle.base_core.specs.declared.value.Value.{Value}
use Rattle.schema_core.specs.declared.changes.RowChanges.{RowChanges}
use Rattle.class_mapping.specs.Mapped.{Mapped, root_table}
use Rattle.object_arena.specs.Fit.{key_fits}
use Rattle.object_arena.specs.Graph.{Graph, object_at}
use Rattle.object_arena.specs.Identity.{has_key, id_of_place}
use Rattle.object_rows.specs.declared.prepared.Prepared.{Prepared}
use Rattle.object_rows.specs.Places.{is_row_of}
use Rattle.object_rows.specs.Seen.{is_new, object_ids}

-- the keys of objects, each at its object's place
abbrev pub Keys : Type 0
Keys = List (Option (List Value))

-- the place of an object's row in its root's table among rows
abbrev pub row_place : Mapped → Graph → List RowName → ObjId → Option ℕ
row_place mapped graph rows object = position (is_row_of (root_table mapped (object_at graph object).class) object) rows

-- the key at a place of the first list, else at a place of the second
abbrev pub key_at : List (List Value) → Option ℕ → List (List Value) → Option ℕ → List Value
key_at keys (Some place) others other = slice_index_or keys place []
key_at keys None others (Some place) = slice_index_or others place []
key_at keys None others None = []

-- the key of a new object: that of its new row, or that of the changed row that stands for it by a switch
abbrev pub new_key : Mapped → Graph → RowChanges → List (List Value) → ObjId → List Value
new_key mapped graph changes keys object =
    key_at keys (row_place mapped graph (map (λ row. row.name) changes.fresh) object)
    (map (λ row. row.key) changes.changed) (row_place mapped graph (map (λ row. row.name) changes.changed) object)

abbrev pub key_if_fit : Bool → List Value → Option (List Value)
key_if_fit true key = Some key
key_if_fit false key = None

-- the key of an object that is new; it has none where its row has none that fits its class
abbrev pub key_if_new : Mapped → Graph → Prepared → RowChanges → List (List Value) → ObjId → Option (List Value)
key_if_new mapped graph prepared changes keys object =
    if is_new graph prepared object
    then key_if_fit (key_fits mapped (object_at graph object).class (new_key mapped graph changes keys object)) (new_key mapped graph changes keys object)
    else None

-- the keys of the new objects, where new rows have these keys
unfoldable pub new_keys : Mapped → Graph → Prepared → RowChanges → List (List Value) → Keys
new_keys mapped graph prepared changes keys = map (key_if_new mapped graph prepared changes keys) (object_ids graph)

-- ---- who has a key

abbrev pub is_given : ClassId → List Value → Option (List Value) × ClassId → Bool
is_given root key given = root.0 == given.1.0 && has_key key given.0

-- the new object that has a key under a root, of several the first
abbrev pub new_holder : Keys → List ClassId → ClassId → List Value → Option ObjId
new_holder keys roots root key = option_map id_of_place (position (is_given root key) (zip keys roots))
