-- What loads fill of collections over a secondary table: the same, whatever the strategy.
use Rattle.std.specs.Prelude.{◌≡◌, true, List, length}
use Rattle.std.specs.List.{All}
use Rattle.base_core.specs.declared.ids.ObjId.{ObjId}
use Rattle.base_core.specs.declared.ids.RelNo.{RelNo}
use Rattle.schema_core.specs.WellFormed.{is_key}
use Rattle.sql_semantics.specs.Created.{bare}
use Rattle.sql_semantics.specs.Eval.{Row, rows_in}
use Rattle.class_types.specs.declared.mapped.Relation.{Relation}
use Rattle.class_sides.specs.Keys.{TableKey}
use Rattle.class_mapping.specs.Mapped.{Mapped, root_spec}
use Rattle.object_arena.specs.Graph.{Graph, IsLink, IsObject, is_among}
use Rattle.load_rows.specs.Reading.{identity_key}
use Rattle.load_rows.specs.Links.{link_at}
use Rattle.load_calls.specs.Reading.{World}
use Rattle.load_calls.specs.Collections.{load_collection}
use Rattle.load_batches.specs.Batches.{is_unloaded, load_members}
use Rattle.loading_laws.specs.Members.{IsPaired, paired_rows}
use Rattle.loading_laws.specs.Strategies.Filled.{AreAlike, Goes, IsFilled}

-- an object with an unloaded link at the place, whose key is one of the class that declares the relationship
pub record IsHolding (mapped : Mapped) (relation : Relation) (place : RelNo) (graph : Graph) (owner : ObjId) : Type 0 where
  pub made : IsObject graph owner
  pub has : IsLink graph owner place
  pub unloaded : is_unloaded (link_at graph owner place) ≡ true
  pub keyed : is_key (root_spec mapped relation.class) (identity_key graph owner) ≡ true

-- each object has its root class, the relationship is over a secondary table, and the rows of the target's class are these
pub record PairedStage (mapped : Mapped) (relation : Relation) (far : TableKey) (all : List Row) (w : World) : Type 0 where
  pub rooted : length w.own.graph.roots ≡ length w.own.graph.objects
  pub paired : IsPaired mapped relation far (bare w.store.tables) all

-- the collection of an owner holds the objects of the rows to which its pairs lead
abbrev pub HoldsPaired : Mapped → Relation → TableKey → RelNo → List Row → World → World → ObjId → Type 0
HoldsPaired mapped relation far place all w after owner =
    IsFilled mapped relation (paired_rows mapped relation far all (rows_in (bare w.store.tables) relation.foreign.0.0) (identity_key w.own.graph owner)) (link_at w.own.graph owner place) after.own.graph (link_at after.own.graph owner place)

-- A lazy load fills the collection of an owner with them.
abbrev pub LazyFillsPairs : Type 0
LazyFillsPairs =
    (mapped : Mapped) (relation : Relation) (far : TableKey) (place : RelNo) (owner : ObjId) (all : List Row) (w after : World) → PairedStage mapped relation far all w → IsHolding mapped relation place w.own.graph owner
    → Goes (load_collection mapped relation owner place) w tt after → HoldsPaired mapped relation far place all w after owner

-- A select-in load fills so the collection of each owner.
abbrev pub SelectinFillsPairs : Type 0
SelectinFillsPairs =
    (mapped : Mapped) (relation : Relation) (far : TableKey) (place : RelNo) (owners : List ObjId) (owner : ObjId) (all : List Row) (w after : World) → PairedStage mapped relation far all w
    → All (IsHolding mapped relation place w.own.graph) owners → is_among owners owner ≡ true
    → Goes (load_members mapped relation place owners) w tt after → HoldsPaired mapped relation far place all w after owner

-- Both fill it with the same objects, by identity: and with the same changes kept.
abbrev pub StrategiesPairAlike : Type 0
StrategiesPairAlike =
    (mapped : Mapped) (relation : Relation) (far : TableKey) (place : RelNo) (owners : List ObjId) (owner : ObjId) (all : List Row) (w lazy together : World) → PairedStage mapped relation far all w
    → All (IsHolding mapped relation place w.own.graph) owners → is_among owners owner ≡ true
    → Goes (load_collection mapped relation owner place) w tt lazy → Goes (load_members mapped relation place owners) w tt together
    → AreAlike lazy.own.graph together.own.graph (link_at w.own.graph owner place) (link_at lazy.own.graph owner place) (link_at together.own.graph owner place)
