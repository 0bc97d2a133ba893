-- The rows of a flush by their names, objects by their keys, and records that have numbers.
use Rattle.std.specs.Prelude.{◌≡◌, ℕ, ◌<◌, ◌≤◌, List, length, map, slice_index_or, Option, Some, if◌then◌else◌}
use Rattle.base_core.specs.declared.ids.ClassId.{ClassId}
use Rattle.base_core.specs.declared.ids.ObjId.{ObjId}
use Rattle.base_core.specs.declared.value.Value.{Value}
use Rattle.object_arena.specs.Entries.{Keyed, entry_of}
use Rattle.object_arena.specs.declared.object.Object.{Object}
use Rattle.object_arena.specs.Graph.{Graph, no_object}
use Rattle.object_records.specs.Records.{record_at}
use Rattle.graph_flushed.specs.declared.keys.RowKeys.{RowKeys}
use Rattle.graph_flushed.specs.Keys.{Keys, is_given, new_holder}

-- the names are those of the new and of the changed rows
pub record AreRowKeys (rows : RowKeys) : Type 0 where
  pub fresh : rows.fresh.now ≡ map (λ row. row.name) rows.changes.now.fresh
  pub changed : rows.changed.now ≡ map (λ row. row.name) rows.changes.now.changed

-- under each root and key is the new object that has them
abbrev pub AreHolders : List Keyed → Keys → List ClassId → Type 0
AreHolders maps keys roots = (root : ClassId) (key : List Value) → entry_of maps root key ≡ new_holder keys roots root key

-- the object has come under its root and key, if it has one, and every other entry is as it was
abbrev pub IsEntered : List Keyed → List Keyed → Option (List Value) → ClassId → ObjId → Type 0
IsEntered old new own root object =
    (wanted : ClassId) (key : List Value) → entry_of new wanted key ≡ (if is_given wanted key (own, root) then Some object else entry_of old wanted key)

-- the cells and links of an object have numbers
abbrev pub IsNarrow : Object → Type 0
IsNarrow object = (length object.cells ≤ 4294967295) × (length object.links ≤ 4294967295)

-- so have those of what the objects before a place come to be, where they get these records
abbrev pub AreNarrowThen : Graph → List (Option Object) → ℕ → Type 0
AreNarrowThen graph records count = (place : ℕ) → place < count → IsNarrow (record_at records place (slice_index_or graph.objects place no_object))
