-- The laws of the loaders at their calls: what a lazy load and a select-in load fill of links of any kind, and that it is the same.
use Rattle.std.specs.Prelude.{◌≡◌, true, List}
use Rattle.std.specs.List.{All}
use Rattle.base_core.specs.declared.ids.ObjId.{ObjId}
use Rattle.base_core.specs.declared.ids.RelNo.{RelNo}
use Rattle.sql_semantics.specs.Created.{bare}
use Rattle.sql_semantics.specs.Eval.{Row}
use Rattle.class_types.specs.declared.mapped.Relation.{Relation}
use Rattle.class_mapping.specs.Mapped.{Mapped}
use Rattle.object_arena.specs.Graph.{is_among}
use Rattle.load_rows.specs.Links.{link_at}
use Rattle.load_calls.specs.Reading.{World}
use Rattle.load_batches.specs.Batches.{is_unloaded}
use Rattle.load_targets.specs.Targets.{load_lazy}
use Rattle.load_queries.specs.Selectin.{load_selectin}
use Rattle.loading_laws.specs.Answers.Answers.{AreRowsOf}
use Rattle.loading_laws.specs.Strategies.Filled.{Goes}
use Rattle.loading_laws.specs.Loaders.Linked.{AgreesWithMap, HoldAlike, HoldsRows, IsReady, IsStage, related_to}

-- the link of an owner holds what is related to it
abbrev pub HoldsRelated : Mapped → Relation → RelNo → List Row → World → World → ObjId → Type 0
HoldsRelated mapped relation place all w after owner =
    HoldsRows mapped relation (related_to mapped relation (bare w.store.tables) all w.own.graph owner) (link_at w.own.graph owner place) after.own.graph (link_at after.own.graph owner place)

-- A lazy load fills the link of an owner so.
abbrev pub LazyFillsLinks : Type 0
LazyFillsLinks =
    (mapped : Mapped) (relation : Relation) (place : RelNo) (owner : ObjId) (all : List Row) (w after : World) → IsStage mapped w → AreRowsOf mapped relation.target (bare w.store.tables) all
    → IsReady mapped relation place w.own.graph owner → is_unloaded (link_at w.own.graph owner place) ≡ true → AgreesWithMap mapped relation all w.own.graph owner → Goes (load_lazy mapped owner place) w tt after → HoldsRelated mapped relation place all w after owner

-- A select-in load fills so the link of each owner that is unloaded.
abbrev pub SelectinFillsLinks : Type 0
SelectinFillsLinks =
    (mapped : Mapped) (relation : Relation) (place : RelNo) (owners : List ObjId) (owner : ObjId) (all : List Row) (w after : World) → IsStage mapped w → AreRowsOf mapped relation.target (bare w.store.tables) all
    → All (IsReady mapped relation place w.own.graph) owners → is_among owners owner ≡ true → is_unloaded (link_at w.own.graph owner place) ≡ true → AgreesWithMap mapped relation all w.own.graph owner → Goes (load_selectin mapped place owners) w tt after
    → HoldsRelated mapped relation place all w after owner

-- Both fill it with the same objects, by identity, and put the kept changes to them; whatever objects the identity map has.
abbrev pub LoadersAgree : Type 0
LoadersAgree =
    (mapped : Mapped) (relation : Relation) (place : RelNo) (owners : List ObjId) (owner : ObjId) (all : List Row) (w lazy together : World) → IsStage mapped w → AreRowsOf mapped relation.target (bare w.store.tables) all
    → All (IsReady mapped relation place w.own.graph) owners → is_among owners owner ≡ true → is_unloaded (link_at w.own.graph owner place) ≡ true → Goes (load_lazy mapped owner place) w tt lazy → Goes (load_selectin mapped place owners) w tt together
    → HoldAlike lazy.own.graph together.own.graph relation.many (link_at w.own.graph owner place) (link_at lazy.own.graph owner place) (link_at together.own.graph owner place)
