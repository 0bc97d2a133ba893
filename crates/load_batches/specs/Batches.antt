-- The reading of the collections of several owners, by one select for each batch of keys.
use Rattle.std.specs.Prelude.{◌≡◌, ℕ, ◌<◌, true, List, [], ◌∷◌, ◌++◌, drop, filter, length, map, take, Option, None, Some, if◌then◌else◌}
use Rattle.std.specs.BTreeMap.{BTreeMap, get}
use Rattle.std.specs.List.{flat_map, range_with_len}
use Rattle.std.specs.Option.{unwrap_or}
use Rattle.base_core.specs.declared.ids.AttrNo.{AttrNo}
use Rattle.base_core.specs.declared.ids.ObjId.{ObjId}
use Rattle.base_core.specs.declared.ids.RelNo.{RelNo}
use Rattle.base_core.specs.declared.value.Value.{Value}
use Rattle.base_core.specs.Order.{values_cmp}
use Rattle.schema_core.specs.Tables.{same_values}
use Rattle.schema_core.specs.WellFormed.{is_key}
use Rattle.class_types.specs.declared.mapped.Relation.{Relation}
use Rattle.class_sides.specs.Keys.{TableKey}
use Rattle.class_mapping.specs.Configured.{HasHierarchies}
use Rattle.class_mapping.specs.Mapped.{Mapped, relations_of, root_spec}
use Rattle.class_mapping.specs.Related.{AreRelated}
use Rattle.keeper_core.specs.Programs.{Run, ◌>>=◌, change, each, give}
use Rattle.keeper_core.specs.Beside.{by_own, on_own}
use Rattle.object_arena.specs.declared.object.State.TheVariants.{Persistent}
use Rattle.object_arena.specs.Fit.{relation_of}
use Rattle.object_arena.specs.Graph.{Graph, IsObject, object_at}
pub use Rattle.object_parts.specs.Links.{is_unloaded}
pub use Rattle.object_parts.specs.Lists.{batch_size, batch_starts}
use Rattle.collection_selects.specs.Collections.{batch_select}
use Rattle.load_filling.specs.Rows.{value_in}
use Rattle.load_rows.specs.Loading.{Loading, take_row}
use Rattle.load_rows.specs.Reading.{identity_key}
use Rattle.collection_selects.specs.Pairs.{owner_width}
use Rattle.load_rows.specs.Links.{collection_filled, link_at}
use Rattle.load_calls.specs.Reading.{World, read}
use Rattle.load_targets.specs.ForeignKeys.{foreign_attrs}
use Rattle.load_batches.specs.declared.owners.Owner.{Owner}
use Rattle.load_batches.specs.declared.members.Member.{Member}

-- ---- owners

-- an owner with the key of its row
abbrev pub with_key : Graph → ObjId → Owner
with_key graph owner = record { object = owner; key = identity_key graph owner }

abbrev pub unloaded_owner : Graph → RelNo → ObjId → List Owner
unloaded_owner graph place owner = if is_unloaded (link_at graph owner place) then with_key graph owner ∷ [] else []

-- the owners whose link at a place is unloaded, with their keys
unfoldable pub unloaded_owners : Graph → RelNo → List ObjId → List Owner
unloaded_owners graph place owners = flat_map (unloaded_owner graph place) owners

-- a persistent object at whose place the relationship stands
pub record IsOwner (mapped : Mapped) (graph : Graph) (relation : Relation) (place : RelNo) (object : ObjId) : Type 0 where
  pub made : IsObject graph object
  pub persistent : (object_at graph object).state ≡ Persistent
  pub within : place.0 < length (relations_of mapped (object_at graph object).class)
  pub is : relation_of mapped (object_at graph object).class place ≡ relation

-- an owner's key is one of the root's table of the class that declares the relationship
abbrev pub IsKeyed : Mapped → Relation → Owner → Type 0
IsKeyed mapped relation owner = is_key (root_spec mapped relation.class) owner.key ≡ true

-- such an owner, at whose place the relationship stands; where hierarchies and relationships are as they are to be,
-- its key is one of that table
pub record IsOwned (mapped : Mapped) (graph : Graph) (relation : Relation) (place : RelNo) (owner : Owner) : Type 0 where
  pub made : IsObject graph owner.object
  pub within : place.0 < length (relations_of mapped (object_at graph owner.object).class)
  pub is : relation_of mapped (object_at graph owner.object).class place ≡ relation
  pub keyed : HasHierarchies mapped → AreRelated mapped → IsKeyed mapped relation owner

-- ---- members

-- the objects of members
abbrev pub objects_in : List Member → List ObjId
objects_in members = map (λ member. member.object) members

abbrev pub place_numbered : ℕ → AttrNo
place_numbered number = record { 0 = number }

-- the first places of a row
abbrev pub first_places : ℕ → List AttrNo
first_places count = map place_numbered (range_with_len 0 count)

abbrev pub owner_places_by : Mapped → Relation → Option TableKey → List AttrNo
owner_places_by mapped relation None = foreign_attrs mapped relation.target relation
owner_places_by mapped relation (Some far) = first_places (owner_width mapped relation)

-- where in a member's row the key of its owner stands: before the target's values where there is a secondary table, else it is the
-- foreign key among them
abbrev pub owner_places : Mapped → Relation → List AttrNo
owner_places mapped relation = owner_places_by mapped relation relation.far

-- the key of the owner in a member's row
abbrev pub owner_key_in : Mapped → Relation → List Value → List Value
owner_key_in mapped relation row = map (value_in row) (owner_places mapped relation)

-- the values of the target in it
abbrev pub target_values : Mapped → Relation → List Value → List Value
target_values mapped relation row = drop (owner_width mapped relation) row

-- an object with the key of its owner
abbrev pub member_of : List Value → ObjId → Member
member_of owner object = record { owner = owner; object = object }

abbrev pub take_member : Mapped → Relation → List Value → List Member → Loading → Run Loading (List Member)
take_member mapped relation row members =
    take_row mapped relation.target (target_values mapped relation row) >>= λ object. give (members ++ member_of (owner_key_in mapped relation row) object ∷ [])

-- the objects of members' rows, each with the key of its owner
unfoldable pub take_members : Mapped → Relation → List (List Value) → Loading → Run Loading (List Member)
take_members mapped relation rows = each (take_member mapped relation) [] rows

-- the members of the owner of a key
abbrev pub members_under : List Member → List Value → List ObjId
members_under members key = objects_in (filter (λ member. same_values member.owner key) members)

-- the objects at a key in a map, none where it is not there
abbrev pub objects_at : BTreeMap (List Value) (List ObjId) → List Value → List ObjId
objects_at groups key = unwrap_or (get values_cmp groups key) []

-- a map has at each key the members of the owner of the key
pub record AreGroups (members : List Member) (groups : BTreeMap (List Value) (List ObjId)) : Type 0 where
  pub same : (key : List Value) → objects_at groups key ≡ members_under members key

abbrev pub fill_owner : RelNo → List Member → Owner → Unit {0} → Loading → Run Loading (Unit {0})
fill_owner place members owner u = change (collection_filled owner.object place (members_under members owner.key))

-- the collection of each owner holds the members under its key
unfoldable pub fill_owners : RelNo → List Owner → List Member → Loading → Run Loading (Unit {0})
fill_owners place owners members = each (fill_owner place members) tt owners

-- ---- batches

abbrev pub fill_batch : Mapped → Relation → RelNo → List Owner → List (List Value) → Loading → Run Loading (Unit {0})
fill_batch mapped relation place owners rows = take_members mapped relation rows >>= fill_owners place owners

abbrev pub keys_of : List Owner → List (List Value)
keys_of owners = map (λ owner. owner.key) owners

-- the rows of the members of owners
unfoldable pub read_batch : Mapped → Relation → List Owner → World → Run World (List (List Value))
read_batch mapped relation owners = read mapped.schema (batch_select mapped relation (keys_of owners))

abbrev pub filled_by_batch : Mapped → Relation → RelNo → List Owner → World → Run World (Unit {0})
filled_by_batch mapped relation place owners = read_batch mapped relation owners >>= λ rows. on_own (fill_batch mapped relation place owners rows)

-- one select for the keys of the owners of a batch; none where there is no owner
unfoldable pub load_batch : Mapped → Relation → RelNo → List Owner → World → Run World (Unit {0})
load_batch mapped relation place [] = give tt
load_batch mapped relation place (first ∷ more) = filled_by_batch mapped relation place (first ∷ more)

-- the batch that begins at a place
abbrev pub batch_at : {A : Type 0} → List A → ℕ → List A
batch_at items start = take batch_size (drop start items)

abbrev pub load_from : Mapped → Relation → RelNo → List Owner → ℕ → Unit {0} → World → Run World (Unit {0})
load_from mapped relation place owners start u = load_batch mapped relation place (batch_at owners start)

-- the batches that begin at these places, one after the other
unfoldable pub load_each : Mapped → Relation → RelNo → List Owner → List ℕ → World → Run World (Unit {0})
load_each mapped relation place owners starts = each (load_from mapped relation place owners) tt starts

abbrev pub load_batches : Mapped → Relation → RelNo → List Owner → World → Run World (Unit {0})
load_batches mapped relation place owners = load_each mapped relation place owners (batch_starts (length owners))

-- the unloaded collections of owners at a place are read and filled
unfoldable pub load_members : Mapped → Relation → RelNo → List ObjId → World → Run World (Unit {0})
load_members mapped relation place owners = by_own (λ own. load_batches mapped relation place (unloaded_owners own.graph place owners))
