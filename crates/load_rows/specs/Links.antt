-- Links that are loaded: what was read, with the changes that were kept for them.
use Rattle.std.specs.Prelude.{false, List, [], ◌∷◌, ◌++◌, fold, slice_index_or, Option, None, Some}
use Rattle.std.specs.BTreeMap.{insert_entry}
use Rattle.std.specs.Map.{values_of}
use Rattle.base_core.specs.declared.ids.ObjId.{ObjId}
use Rattle.base_core.specs.declared.ids.RelNo.{RelNo}
use Rattle.base_core.specs.declared.value.Value.{Value}
use Rattle.base_core.specs.Order.{values_cmp}
use Rattle.keeper_core.specs.declared.notes.Note.TheVariants as note
use Rattle.object_arena.specs.declared.object.Link.{Link}
use Rattle.object_arena.specs.declared.object.Link.TheVariants.{Unset, Unloaded, One, Many}
use Rattle.object_arena.specs.Graph.{Graph, object_at, with_link}
pub use Rattle.object_parts.specs.Members.{linked, without}
use Rattle.load_rows.specs.Loading.{Loading}
use Rattle.load_rows.specs.Reading.{identity_key}

-- ---- members

-- an object under its key
abbrev pub with_key : Graph → List (List Value × ObjId) → ObjId → List (List Value × ObjId)
with_key graph entries object = insert_entry values_cmp entries (identity_key graph object) object

-- objects in the order of their keys, each once
unfoldable pub in_key_order : Graph → List ObjId → List ObjId
in_key_order graph objects = values_of (fold (with_key graph) [] objects)

-- ---- links

abbrev pub link_in : List Link → RelNo → Link
link_in links place = slice_index_or links place.0 Unset

-- the link of an object at a place
abbrev pub link_at : Graph → ObjId → RelNo → Link
link_at graph object place = link_in (object_at graph object).links place

-- an unloaded collection is loaded with what was read and the kept changes; a loaded link stays
abbrev pub collection_of : List ObjId → Link → Option Link
collection_of read (Unloaded added removed) = Some (Many (linked added removed read) read)
collection_of read link = None

-- an unloaded many-to-one link leads to what was found; a loaded one stays
abbrev pub end_of : Option ObjId → Link → Option Link
end_of end (Unloaded added removed) = Some (One end false)
end_of end link = None

abbrev pub with_loaded : ObjId → RelNo → Option Link → Loading → Loading
with_loaded owner place None own = own
with_loaded owner place (Some link) own = record { graph = with_link own.graph owner place link; notes = own.notes ++ note.Filled owner ∷ [] }

-- an unloaded collection holds the objects that were read, in the order of their keys, and its owner is noted
unfoldable pub collection_filled : ObjId → RelNo → List ObjId → Loading → Loading
collection_filled owner place read own = with_loaded owner place (collection_of (in_key_order own.graph read) (link_at own.graph owner place)) own

-- an unloaded many-to-one link leads to what was found, and its owner is noted
unfoldable pub end_filled : ObjId → RelNo → Option ObjId → Loading → Loading
end_filled owner place end own = with_loaded owner place (end_of end (link_at own.graph owner place)) own
