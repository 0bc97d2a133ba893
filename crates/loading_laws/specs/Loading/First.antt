-- What a query's own select leaves: a world from which the links of its objects can be loaded.
use Rattle.std.specs.Prelude.{◌≡◌, ◌<◌, true, List, length}
use Rattle.std.specs.List.{All}
use Rattle.base_core.specs.declared.ids.ClassId.{ClassId}
use Rattle.base_core.specs.declared.ids.ObjId.{ObjId}
use Rattle.base_core.specs.declared.ids.RelNo.{RelNo}
use Rattle.expr_types.specs.declared.select.ObjectQuery.{ObjectQuery}
use Rattle.sql_semantics.specs.Created.{bare}
use Rattle.sql_semantics.specs.Plain.{IsPlainSelect}
use Rattle.sql_semantics.specs.Shapes.{AreLegalRows}
use Rattle.class_mapping.specs.Mapped.{IsClass, Mapped, relations_of}
use Rattle.object_arena.specs.Fit.{relation_of}
use Rattle.object_arena.specs.Graph.{is_among}
use Rattle.relations.specs.Mirror.{is_of}
use Rattle.load_calls.specs.Reading.{World}
use Rattle.load_queries.specs.Queries.{ReadsObjects, load_select}
use Rattle.loading_laws.specs.Strategies.Filled.{Goes}
use Rattle.loading_laws.specs.Loaders.Linked.{IsReady, IsStage}
use Rattle.loading_laws.specs.Loaders.Options.{IsAnswered}

-- A query for the objects of a class, over an arena's objects that fit the mapping and tables with legal rows; its select may be sent.
pub record IsReadable (mapped : Mapped) (query : ObjectQuery) (w : World) : Type 0 where
  pub stage : IsStage mapped w
  pub legal : AreLegalRows mapped.schema (bare w.store.tables)
  pub class : IsClass mapped query.class
  pub reads : ReadsObjects mapped query.class query.select
  pub plain : IsPlainSelect mapped.schema query.select

-- The store is as it was, and the objects are an arena's that fit. Each object that was answered is persistent; and at each place of
-- the class each of them that is of the class has the class's relationship, and where this is many-to-one its foreign key.
pub record LeavesReady (mapped : Mapped) (class : ClassId) (objects : List ObjId) (w first : World) : Type 0 where
  pub store : first.store ≡ w.store
  pub stage : IsStage mapped first
  pub answered : All (IsAnswered first.own.graph) objects
  pub ready : (place : RelNo) (one : ObjId) → place.0 < length (relations_of mapped class) → is_among objects one ≡ true → is_of first.own.graph mapped class one ≡ true
      → IsReady mapped (relation_of mapped class place) place first.own.graph one

-- A query's own select leaves so much.
abbrev pub OwnSelectsLeaveReady : Type 0
OwnSelectsLeaveReady = (mapped : Mapped) (query : ObjectQuery) (objects : List ObjId) (w first : World) → IsReadable mapped query w → Goes (load_select mapped query) w objects first → LeavesReady mapped query.class objects w first
