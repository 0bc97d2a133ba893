-- The loads of a session, and what each starts from.
use Rattle.std.specs.Prelude.{◌≡◌, ◌<◌, List, length}
use Rattle.std.specs.List.{AllByRecursion}
use Rattle.base_core.specs.declared.ids.AttrNo.{AttrNo}
use Rattle.base_core.specs.declared.ids.ClassId.{ClassId}
use Rattle.base_core.specs.declared.ids.ObjId.{ObjId}
use Rattle.base_core.specs.declared.ids.RelNo.{RelNo}
use Rattle.base_core.specs.declared.value.Value.{Value}
use Rattle.expr_types.specs.declared.select.ObjectQuery.{ObjectQuery}
use Rattle.class_mapping.specs.Mapped.{IsClass, Mapped, relations_of, root_of}
use Rattle.class_mapping.specs.Related.{AreRelated}
use Rattle.mapping_laws.specs.Hierarchies.{HasHierarchies}
use Rattle.keeper_core.specs.Beside.{on_own}
use Rattle.keeper_core.specs.Programs.{◌>>=◌}
use Rattle.object_arena.specs.declared.object.State.TheVariants.{Persistent}
use Rattle.object_arena.specs.Graph.{Graph, IsObject, object_at}
use Rattle.load_calls.specs.Reading.{World}
use Rattle.load_rows.specs.Reading.{identity_key}
use Rattle.load_calls.specs.Refreshing.{read_cells, refresh, take_cells}
use Rattle.load_targets.specs.Targets.{load_key, load_lazy}
use Rattle.load_queries.specs.Joined.{load_joined}
use Rattle.load_queries.specs.Selectin.{IsOption, load_objects, load_options, with_options}
use Rattle.load_steps.specs.Rows.{AnswerRows, AnswersJoined, AnswersOwn, AreAttributes}
use Rattle.load_steps.specs.Steps.{AreFound, IsArena}

-- A load: of the expired cells of an object; of the rows of some of its cells, which are then taken; of its link at a place; of the object
-- of a class under a key; of the links at places of objects of a class; of the objects of a query by its own select, or with its joined
-- options.
pub data Load : Type 0 where
  Cells : ObjId → Load
  Rows : ObjId → List AttrNo → Load
  Taken : ObjId → List AttrNo → List (List Value) → Load
  Link : ObjId → RelNo → Load
  Key : ClassId → List Value → Load
  Links : ClassId → List ObjId → List RelNo → Load
  Objects : ObjectQuery → Load
  Query : ObjectQuery → Load

-- the world after a load, whatever it answers
abbrev pub after_load : Mapped → Load → World → World
after_load mapped (Cells object) w = (refresh mapped object w).after
after_load mapped (Rows object attrs) w = (read_cells mapped object attrs w).after
after_load mapped (Taken object attrs rows) w = (on_own (take_cells object attrs rows) w).after
after_load mapped (Link object place) w = (load_lazy mapped object place w).after
after_load mapped (Key class key) w = (load_key mapped class key w).after
after_load mapped (Links class objects places) w = (load_options mapped class objects places w).after
after_load mapped (Objects query) w = (load_objects mapped query w).after
after_load mapped (Query query) w = ((load_joined mapped query >>= with_options mapped query) w).after

-- a persistent object
abbrev pub IsStanding : Graph → ObjId → Type 0
IsStanding graph object = IsObject graph object × ((object_at graph object).state ≡ Persistent)

-- What a load is asked for: persistent objects, attributes and relationships of their classes, declared classes; what is taken are rows of
-- the object's cells, and the rows that a query reads are rows of its class and of the targets of its options.
abbrev pub CanLoad : (mapped : Mapped) (IsRow : ClassId → List Value → Type 0) (IsCells : ClassId → List AttrNo → List Value → List Value → Type 0) → World → Load → Type 0
CanLoad mapped IsRow IsCells w (Cells object) = IsStanding w.own.graph object
CanLoad mapped IsRow IsCells w (Rows object attrs) = IsStanding w.own.graph object × AreAttributes mapped (object_at w.own.graph object).class attrs
CanLoad mapped IsRow IsCells w (Taken object attrs rows) = IsStanding w.own.graph object × AllByRecursion (IsCells (object_at w.own.graph object).class attrs (identity_key w.own.graph object)) rows
CanLoad mapped IsRow IsCells w (Link object place) = IsStanding w.own.graph object × (place.0 < length (relations_of mapped (object_at w.own.graph object).class))
CanLoad mapped IsRow IsCells w (Key class key) = IsClass mapped class
CanLoad mapped IsRow IsCells w (Links class objects places) = IsClass mapped class × AreFound w.own.graph (root_of mapped class) objects × AllByRecursion (IsOption mapped class) places
CanLoad mapped IsRow IsCells w (Objects query) = IsClass mapped query.class × AllByRecursion (IsOption mapped query.class) query.selectin × AnswersOwn mapped IsRow w.store.tables query
CanLoad mapped IsRow IsCells w (Query query) =
    IsClass mapped query.class × AllByRecursion (IsOption mapped query.class) query.joined × AllByRecursion (IsOption mapped query.class) query.selectin × AnswersJoined mapped IsRow w.store.tables query

-- what loads start from: the mapping is configured, the objects are an arena's that fit it, and the selects of loads answer such rows
pub record IsLoadStage (mapped : Mapped) (IsRow : ClassId → List Value → Type 0) (IsCells : ClassId → List AttrNo → List Value → List Value → Type 0) (w : World) : Type 0 where
  pub has : HasHierarchies mapped
  pub related : AreRelated mapped
  pub arena : IsArena mapped w.own.graph
  pub answers : AnswerRows mapped IsRow IsCells w.store.tables
