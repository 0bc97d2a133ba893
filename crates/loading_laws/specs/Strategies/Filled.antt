-- What loads fill: links with the objects that stand for the related rows, whatever the strategy.
use Rattle.std.specs.Prelude.{◌≡◌, true, List, [], filter, fold, length, map, None, Some, Ok}
use Rattle.std.specs.BTreeMap.{insert_entry}
use Rattle.std.specs.List.{All}
use Rattle.std.specs.Map.{keys_of}
use Rattle.base_core.specs.declared.ids.ObjId.{ObjId}
use Rattle.base_core.specs.declared.ids.RelNo.{RelNo}
use Rattle.base_core.specs.declared.value.Value.{Value}
use Rattle.base_core.specs.Order.{values_cmp}
use Rattle.schema_core.specs.Tables.{same_values}
use Rattle.sql_semantics.specs.Created.{bare}
use Rattle.sql_semantics.specs.Eval.{Row}
use Rattle.class_types.specs.declared.mapped.Relation.{Relation}
use Rattle.class_mapping.specs.Mapped.{Mapped, root_of}
use Rattle.class_mapping.specs.Related.{IsRelated}
use Rattle.mapping_laws.specs.Hierarchies.{HasHierarchies}
use Rattle.keeper_core.specs.Programs.{Run}
use Rattle.object_arena.specs.declared.object.Link.{Link}
use Rattle.object_arena.specs.Graph.{Graph, IsLink, IsObject, is_among}
use Rattle.collection_selects.specs.Collections.{owner_columns}
use Rattle.load_filling.specs.Rows.{row_key, value_in}
use Rattle.load_rows.specs.Reading.{identity_key}
use Rattle.load_rows.specs.Links.{collection_of, link_at}
use Rattle.load_calls.specs.Reading.{World}
use Rattle.load_calls.specs.Collections.{load_collection}
use Rattle.load_targets.specs.ForeignKeys.{foreign_attrs}
use Rattle.load_batches.specs.Batches.{is_unloaded, load_members, with_key as with_owner_key}
use Rattle.load_batches.specs.declared.owners.Owner.{Owner}
use Rattle.loading_laws.specs.Answers.Answers.{AreRowsOf, IsKeyOf}
use Rattle.loading_laws.specs.Strategies.Standing.{Stands}

-- the program answers, and leaves this world
pub record Goes {W A : Type 0} (m : W → Run W A) (w : W) (a : A) (after : W) : Type 0 where
  pub answer : (m w).answer ≡ Ok a
  pub leaves : (m w).after ≡ after

-- ---- what a collection holds

abbrev pub with_key : List (List Value × Unit {0}) → List Value → List (List Value × Unit {0})
with_key entries key = insert_entry values_cmp entries key tt

-- keys in their order, each once
unfoldable pub keys_in_order : List (List Value) → List (List Value)
keys_in_order keys = keys_of (fold with_key [] keys)

-- the key of the owner to which a row of the target refers
abbrev pub key_of_owner : Mapped → Relation → Row → List Value
key_of_owner mapped relation row = map (value_in row) (foreign_attrs mapped relation.target relation)

-- the rows of the target that refer to an owner's key, of all its rows
abbrev pub related_rows : Mapped → Relation → List Row → List Value → List Row
related_rows mapped relation all key = filter (λ row. same_values (key_of_owner mapped relation row) key) all

-- an unloaded collection holds the persistent objects of these rows, in the order of their keys and each once, with the changes that
-- were kept for it
pub record IsFilled (mapped : Mapped) (relation : Relation) (rows : List Row) (old : Link) (graph : Graph) (now : Link) : Type 0 where
  pub base : List ObjId
  pub keys : map (identity_key graph) base ≡ keys_in_order (map (row_key mapped relation.target) rows)
  pub stand : All (λ object. Stands (root_of mapped relation.target) graph (identity_key graph object) object) base
  pub link : Some now ≡ collection_of base old

-- ---- what a load starts from

-- a one-to-many relationship of a configured mapping
pub record IsOneToMany (mapped : Mapped) (relation : Relation) : Type 0 where
  pub has : HasHierarchies mapped
  pub related : IsRelated mapped relation
  pub many : relation.many ≡ true
  pub near : relation.far ≡ None

-- an object with an unloaded link at the place, whose key is one of the relationship's
pub record IsWaiting (mapped : Mapped) (relation : Relation) (place : RelNo) (graph : Graph) (owner : ObjId) : Type 0 where
  pub made : IsObject graph owner
  pub has : IsLink graph owner place
  pub unloaded : is_unloaded (link_at graph owner place) ≡ true
  pub keyed : IsKeyOf (owner_columns mapped relation) (identity_key graph owner)

-- each object has its root class, and the rows of the target's class are these
pub record Stage (mapped : Mapped) (relation : Relation) (all : List Row) (w : World) : Type 0 where
  pub rooted : length w.own.graph.roots ≡ length w.own.graph.objects
  pub rows : AreRowsOf mapped relation.target (bare w.store.tables) all

-- two links were filled from one, each in its graph, with objects of the same identities in the same order
pub record AreAlike (first second : Graph) (old one other : Link) : Type 0 where
  pub base : List ObjId
  pub same : List ObjId
  pub one_link : Some one ≡ collection_of base old
  pub other_link : Some other ≡ collection_of same old
  pub alike : map (identity_key first) base ≡ map (identity_key second) same

-- ---- the laws

-- the link of an owner holds what is related to it
abbrev pub HoldsRelated : Mapped → Relation → RelNo → List Row → World → World → ObjId → Type 0
HoldsRelated mapped relation place all w after owner =
    IsFilled mapped relation (related_rows mapped relation all (identity_key w.own.graph owner)) (link_at w.own.graph owner place) after.own.graph (link_at after.own.graph owner place)

-- A lazy load fills the collection of an owner with what is related to it.
abbrev pub LazyFills : Type 0
LazyFills =
    (mapped : Mapped) (relation : Relation) (place : RelNo) (owner : ObjId) (all : List Row) (w after : World) → IsOneToMany mapped relation → Stage mapped relation all w → IsWaiting mapped relation place w.own.graph owner
    → Goes (load_collection mapped relation owner place) w tt after → HoldsRelated mapped relation place all w after owner

-- owners of a batch with their keys
abbrev pub with_keys : Graph → List ObjId → List Owner
with_keys graph owners = map (with_owner_key graph) owners

-- A select-in load fills so the collection of each owner.
abbrev pub SelectinFills : Type 0
SelectinFills =
    (mapped : Mapped) (relation : Relation) (place : RelNo) (owners : List ObjId) (owner : ObjId) (all : List Row) (w after : World) → IsOneToMany mapped relation → Stage mapped relation all w
    → All (IsWaiting mapped relation place w.own.graph) owners → is_among owners owner ≡ true
    → Goes (load_members mapped relation place owners) w tt after → HoldsRelated mapped relation place all w after owner

-- Both fill it with the same objects, by identity: and with the same changes kept.
abbrev pub StrategiesFillAlike : Type 0
StrategiesFillAlike =
    (mapped : Mapped) (relation : Relation) (place : RelNo) (owners : List ObjId) (owner : ObjId) (all : List Row) (w lazy together : World) → IsOneToMany mapped relation → Stage mapped relation all w
    → All (IsWaiting mapped relation place w.own.graph) owners → is_among owners owner ≡ true
    → Goes (load_collection mapped relation owner place) w tt lazy → Goes (load_members mapped relation place owners) w tt together
    → AreAlike lazy.own.graph together.own.graph (link_at w.own.graph owner place) (link_at lazy.own.graph owner place) (link_at together.own.graph owner place)
