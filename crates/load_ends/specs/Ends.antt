-- The reading of the many-to-one links of several owners, by one select for each batch of keys.
use Rattle.std.specs.Prelude.{◌≡◌, ℕ, ◌<◌, Bool, true, not, ◌&&◌, List, [], ◌∷◌, ◌++◌, fold, length, Option, None, is_none, if◌then◌else◌}
use Rattle.std.specs.BTreeSet.{BTreeSet, contains}
use Rattle.std.specs.List.{flat_map, list_any}
use Rattle.std.specs.Option.{option_and_then}
use Rattle.base_core.specs.declared.ids.ClassId.{ClassId}
use Rattle.base_core.specs.declared.ids.ObjId.{ObjId}
use Rattle.base_core.specs.declared.ids.RelNo.{RelNo}
use Rattle.base_core.specs.declared.value.Value.{Value}
use Rattle.base_core.specs.Order.{values_cmp}
use Rattle.schema_core.specs.Tables.{has_null, same_values}
use Rattle.class_types.specs.declared.mapped.Relation.{Relation}
use Rattle.class_mapping.specs.Mapped.{Mapped, relations_of, root_of}
use Rattle.keeper_core.specs.Programs.{Run, ◌>>=◌, change, each, give}
use Rattle.keeper_core.specs.Beside.{by_own, on_own}
use Rattle.object_arena.specs.Fit.{key_fits, relation_of}
use Rattle.object_arena.specs.Graph.{Graph, IsObject, object_at}
use Rattle.object_arena.specs.Identity.{find_identity}
use Rattle.load_selects.specs.Selects.{targets_select}
use Rattle.load_rows.specs.Loading.{Loading}
use Rattle.load_rows.specs.Links.{end_filled, link_at}
use Rattle.load_calls.specs.Reading.{World, read}
use Rattle.load_calls.specs.Collections.{take_rows}
use Rattle.load_targets.specs.ForeignKeys.{foreign_key}
use Rattle.load_targets.specs.Targets.{if_of}
use Rattle.load_batches.specs.Batches.{batch_at, batch_starts, is_unloaded}

-- ---- owners

-- an object at whose place the relationship stands
pub record IsChild (mapped : Mapped) (graph : Graph) (relation : Relation) (place : RelNo) (object : ObjId) : Type 0 where
  pub made : IsObject graph object
  pub within : place.0 < length (relations_of mapped (object_at graph object).class)
  pub is : relation_of mapped (object_at graph object).class place ≡ relation

abbrev pub if_unloaded : Graph → RelNo → ObjId → List ObjId
if_unloaded graph place owner = if is_unloaded (link_at graph owner place) then owner ∷ [] else []

-- the objects whose link at a place is unloaded
unfoldable pub unloaded : Graph → RelNo → List ObjId → List ObjId
unloaded graph place owners = flat_map (if_unloaded graph place) owners

-- ---- the keys of targets

abbrev pub key_of : Mapped → Relation → Graph → ObjId → List Value
key_of mapped relation graph owner = foreign_key mapped relation (object_at graph owner)

-- a key that is to be read: it has no NULL, and the identity map lacks it
abbrev pub is_wanted : Mapped → ClassId → Graph → List Value → Bool
is_wanted mapped class graph key = not (has_null key) && is_none (find_identity graph (root_of mapped class) key)

-- a key goes behind others, unless it is among them
abbrev pub with_first : List (List Value) → List Value → List (List Value)
with_first keys key = if list_any (same_values key) keys then keys else (keys ++ key ∷ [])

abbrev pub with_wanted : Mapped → ClassId → Graph → List (List Value) → List Value → List (List Value)
with_wanted mapped class graph keys key = if is_wanted mapped class graph key then with_first keys key else keys

abbrev pub with_key_of : Mapped → Relation → Graph → List (List Value) → ObjId → List (List Value)
with_key_of mapped relation graph keys owner = with_wanted mapped relation.target graph keys (key_of mapped relation graph owner)

-- the keys that are to be read for owners, each where it comes first
unfoldable pub wanted_keys : Mapped → Relation → Graph → List ObjId → List (List Value)
wanted_keys mapped relation graph owners = fold (with_key_of mapped relation graph) [] owners

-- a set has these keys
pub record HasSeen (seen : BTreeSet (List Value)) (keys : List (List Value)) : Type 0 where
  pub same : (key : List Value) → contains values_cmp seen key ≡ list_any (same_values key) keys

abbrev pub FitsClass : Mapped → ClassId → List Value → Type 0
FitsClass mapped class key = key_fits mapped class key ≡ true

-- ---- their rows

abbrev pub take_targets : Mapped → ClassId → List (List Value) → Loading → Run Loading (Unit {0})
take_targets mapped class rows = take_rows mapped class rows >>= λ _. give tt

abbrev pub read_keys : Mapped → ClassId → List (List Value) → World → Run World (Unit {0})
read_keys mapped class keys = read mapped.schema (targets_select mapped class keys) >>= λ rows. on_own (take_targets mapped class rows)

-- the objects of a class under these keys are read by one select; where there is no key, none is sent
unfoldable pub load_keys : Mapped → ClassId → List (List Value) → World → Run World (Unit {0})
load_keys mapped class [] = give tt
load_keys mapped class (key ∷ keys) = read_keys mapped class (key ∷ keys)

abbrev pub load_from : Mapped → ClassId → List (List Value) → ℕ → Unit {0} → World → Run World (Unit {0})
load_from mapped class keys start u = load_keys mapped class (batch_at keys start)

-- the batches that begin at these places, one after the other
unfoldable pub load_each : Mapped → ClassId → List (List Value) → List ℕ → World → Run World (Unit {0})
load_each mapped class keys starts = each (load_from mapped class keys) tt starts

abbrev pub load_all : Mapped → ClassId → List (List Value) → World → Run World (Unit {0})
load_all mapped class keys = load_each mapped class keys (batch_starts (length keys))

-- ---- the links

-- the object of a class or of one below it that the identity map has under a key without a NULL
abbrev pub known_end : Mapped → ClassId → Graph → List Value → Option ObjId
known_end mapped class graph key = if has_null key then None else option_and_then (if_of graph mapped class) (find_identity graph (root_of mapped class) key)

abbrev pub end_known : Mapped → Relation → RelNo → ObjId → Loading → Loading
end_known mapped relation place owner own = end_filled owner place (known_end mapped relation.target own.graph (key_of mapped relation own.graph owner)) own

abbrev pub fill_owner : Mapped → Relation → RelNo → ObjId → Unit {0} → Loading → Run Loading (Unit {0})
fill_owner mapped relation place owner u = change (end_known mapped relation place owner)

-- the link of each owner leads to what the identity map has under its foreign key
unfoldable pub fill_owners : Mapped → Relation → RelNo → List ObjId → Loading → Run Loading (Unit {0})
fill_owners mapped relation place owners = each (fill_owner mapped relation place) tt owners

abbrev pub load_unloaded : Mapped → Relation → RelNo → Graph → List ObjId → World → Run World (Unit {0})
load_unloaded mapped relation place graph owners = load_all mapped relation.target (wanted_keys mapped relation graph owners) >>= λ _. on_own (fill_owners mapped relation place owners)

-- the unloaded many-to-one links of owners at a place are read and filled
unfoldable pub load_ends : Mapped → Relation → RelNo → List ObjId → World → Run World (Unit {0})
load_ends mapped relation place owners = by_own (λ own. load_unloaded mapped relation place own.graph (unloaded own.graph place owners))
