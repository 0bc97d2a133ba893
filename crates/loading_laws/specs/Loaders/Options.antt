-- Links at several places, one place after the other: what a load at one place leaves of all others, and what each holds in the end.
use Rattle.std.specs.Prelude.{◌≡◌, Bool, true, false, not, ◌&&◌, ◌==◌, List, is_none}
use Rattle.std.specs.List.{All, list_any}
use Rattle.base_core.specs.declared.ids.AttrNo.{AttrNo}
use Rattle.base_core.specs.declared.ids.ClassId.{ClassId}
use Rattle.base_core.specs.declared.ids.ObjId.{ObjId}
use Rattle.base_core.specs.declared.ids.RelNo.{RelNo}
use Rattle.sql_semantics.specs.Created.{bare}
use Rattle.sql_semantics.specs.Eval.{Row}
use Rattle.class_types.specs.declared.mapped.Relation.{Relation}
use Rattle.class_mapping.specs.Mapped.{IsClass, Mapped}
use Rattle.object_arena.specs.declared.object.State.TheVariants.{Persistent}
use Rattle.object_arena.specs.Fit.{relation_of}
use Rattle.object_arena.specs.Graph.{Graph, IsObject, is_among, object_at}
use Rattle.object_arena.specs.Identity.{IsGraph}
use Rattle.load_rows.specs.Links.{link_at}
use Rattle.load_calls.specs.Reading.{World}
use Rattle.load_targets.specs.ForeignKeys.{is_key_expired, value_of}
use Rattle.load_batches.specs.Batches.{IsOwner, is_unloaded}
use Rattle.load_queries.specs.Selectin.{IsOption, load_options, load_selectin, owners_among}
use Rattle.loading_laws.specs.Answers.Answers.{AreRowsOf}
use Rattle.loading_laws.specs.Strategies.Filled.{Goes}
use Rattle.loading_laws.specs.Strategies.Standing.{Stays}
use Rattle.loading_laws.specs.Loaders.Calls.{HoldsRelated}
use Rattle.loading_laws.specs.Loaders.Linked.{AgreesWithMap, IsStage}

-- the link of an object at another place than that of a load, or one that is loaded
abbrev pub is_left : RelNo → Graph → ObjId → RelNo → Bool
is_left place graph object other = not (other.0 == place.0 && is_unloaded (link_at graph object other))

-- A load at a place leaves of the objects that there were their identities and classes, the cells that were held, and all links but the
-- unloaded ones at the place. Who stood for a key still does, and the objects are those of an arena.
pub record Leaves (place : RelNo) (old new : Graph) : Type 0 where
  pub stays : Stays old new
  pub graph : IsGraph new.objects new.roots
  pub classes : (object : ObjId) → IsObject old object → (object_at new object).class ≡ (object_at old object).class
  pub cells : (object : ObjId) → IsObject old object → (attr : AttrNo) → is_none (value_of (object_at old object) attr) ≡ false → value_of (object_at new object) attr ≡ value_of (object_at old object) attr
  pub links : (object : ObjId) → IsObject old object → (other : RelNo) → is_left place old object other ≡ true → link_at new object other ≡ link_at old object other

-- A select-in load leaves so much. So links that are loaded stay, and those of other places.
abbrev pub SelectinLeaves : Type 0
SelectinLeaves =
    (mapped : Mapped) (relation : Relation) (place : RelNo) (owners : List ObjId) (w after : World) → IsStage mapped w → All (IsOwner mapped w.own.graph relation place) owners → Goes (load_selectin mapped place owners) w tt after
    → Leaves place w.own.graph after.own.graph

-- a persistent object
abbrev pub IsAnswered : Graph → ObjId → Type 0
IsAnswered graph object = IsObject graph object × ((object_at graph object).state ≡ Persistent)

-- of a many-to-one relationship no cell of the object's foreign key is expired
abbrev pub HoldsItsKey : Mapped → Relation → Graph → ObjId → Type 0
HoldsItsKey mapped relation graph object = relation.many ≡ false → is_key_expired mapped relation (object_at graph object) ≡ false

-- The links of objects at several places are loaded one place after the other: in the end the link at each of the places, of each owner
-- that had it unloaded, holds what is related. Where a many-to-one relationship's target is in the identity map then, it is of its row.
abbrev pub OptionsFillLinks : Type 0
OptionsFillLinks =
    (mapped : Mapped) (class : ClassId) (places : List RelNo) (place : RelNo) (objects : List ObjId) (owner : ObjId) (all : List Row) (w after : World) → IsStage mapped w → IsClass mapped class
    → All (IsOption mapped class) places → list_any (λ other. other.0 == place.0) places ≡ true → All (IsAnswered w.own.graph) objects → AreRowsOf mapped (relation_of mapped class place).target (bare w.store.tables) all
    → All (HoldsItsKey mapped (relation_of mapped class place) w.own.graph) (owners_among mapped class w.own.graph objects) → is_among (owners_among mapped class w.own.graph objects) owner ≡ true
    → is_unloaded (link_at w.own.graph owner place) ≡ true → AgreesWithMap mapped (relation_of mapped class place) all after.own.graph owner → Goes (load_options mapped class objects places) w tt after
    → HoldsRelated mapped (relation_of mapped class place) place all w after owner
