-- Lazy loads one after another: what each leaves, and what the links hold in the end.
use Rattle.std.specs.Prelude.{◌≡◌, Bool, true, false, ◌&&◌, ◌==◌, List}
use Rattle.std.specs.List.{All, list_any}
use Rattle.base_core.specs.declared.ids.ObjId.{ObjId}
use Rattle.base_core.specs.declared.ids.RelNo.{RelNo}
use Rattle.sql_semantics.specs.Created.{bare}
use Rattle.sql_semantics.specs.Eval.{Row}
use Rattle.class_types.specs.declared.mapped.Relation.{Relation}
use Rattle.class_mapping.specs.Mapped.{Mapped}
use Rattle.keeper_core.specs.Programs.{Run, each}
use Rattle.object_arena.specs.Fit.{relation_of}
use Rattle.object_arena.specs.Graph.{Graph, IsObject, object_at}
use Rattle.load_rows.specs.Links.{link_at}
use Rattle.load_calls.specs.Reading.{World}
use Rattle.load_targets.specs.Targets.{load_lazy}
use Rattle.load_batches.specs.Batches.{is_unloaded}
use Rattle.loading_laws.specs.Answers.Answers.{AreRowsOf}
use Rattle.loading_laws.specs.Strategies.Filled.{Goes}
use Rattle.loading_laws.specs.Loaders.Calls.{HoldsRelated}
use Rattle.loading_laws.specs.Loaders.Linked.{AgreesWithMap, IsReady, IsStage}
use Rattle.loading_laws.specs.Loaders.Options.{Leaves}

-- ---- one load

-- what a load at a place leaves, and all links of other objects
pub record LeavesOthers (place : RelNo) (owner : ObjId) (old new : Graph) : Type 0 where
  pub leaves : Leaves place old new
  pub others : (object : ObjId) → IsObject old object → (object.0 == owner.0) ≡ false → (object_at new object).links ≡ (object_at old object).links

-- A lazy load leaves so much. So it changes of the objects that there were the one link alone.
abbrev pub LazyLeaves : Type 0
LazyLeaves =
    (mapped : Mapped) (relation : Relation) (place : RelNo) (owner : ObjId) (w after : World) → IsStage mapped w → IsReady mapped relation place w.own.graph owner → Goes (load_lazy mapped owner place) w tt after
    → LeavesOthers place owner w.own.graph after.own.graph

-- ---- several

abbrev pub load_link : Mapped → ObjId × RelNo → Unit {0} → World → Run World (Unit {0})
load_link mapped link u = load_lazy mapped link.0 link.1

-- the links of objects, each at its place, are read lazily, one after the other
abbrev pub load_links : Mapped → List (ObjId × RelNo) → World → Run World (Unit {0})
load_links mapped links = each (load_link mapped) tt links

-- the link of a persistent object whose class has a relationship at the place, and whose foreign key is held where that is many-to-one
abbrev pub CanBeRead : Mapped → Graph → ObjId × RelNo → Type 0
CanBeRead mapped graph link = IsReady mapped (relation_of mapped (object_at graph link.0).class link.1) link.1 graph link.0

-- the link of this object at this place
abbrev pub is_link : ObjId → RelNo → ObjId × RelNo → Bool
is_link owner place link = link.0.0 == owner.0 && link.1.0 == place.0

-- In the end each of them that was unloaded holds what is related to its owner. Where a many-to-one relationship's target is in the
-- identity map then, it is of its row.
abbrev pub LinksReadLazily : Type 0
LinksReadLazily =
    (mapped : Mapped) (relation : Relation) (links : List (ObjId × RelNo)) (place : RelNo) (owner : ObjId) (all : List Row) (w after : World) → IsStage mapped w → All (CanBeRead mapped w.own.graph) links
    → list_any (is_link owner place) links ≡ true → IsReady mapped relation place w.own.graph owner → AreRowsOf mapped relation.target (bare w.store.tables) all → is_unloaded (link_at w.own.graph owner place) ≡ true
    → AgreesWithMap mapped relation all after.own.graph owner → Goes (load_links mapped links) w tt after → HoldsRelated mapped relation place all w after owner
