-- The laws of the loads that a session runs.
use Rattle.std.proofs.Common.{◌≡◌, IfOk, inr, List, refl, sym, subst}
use Rattle.std.specs.List.{AllByRecursion}
use Rattle.base_core.specs.declared.ids.AttrNo.{AttrNo}
use Rattle.base_core.specs.declared.ids.ClassId.{ClassId}
use Rattle.base_core.specs.declared.ids.ObjId.{ObjId}
use Rattle.base_core.specs.declared.value.Value.{Value}
use Rattle.schema_core.specs.Tables.{Tables}
use Rattle.class_mapping.specs.Mapped.{IsClass, Mapped, root_of}
use Rattle.expr_types.specs.declared.select.ObjectQuery.{ObjectQuery}
use Rattle.mapping_laws.specs.Hierarchies.{HasHierarchies}
use Rattle.table_laws.specs.Legality.{AreSound}
use Rattle.object_arena.specs.Graph.{Graph, object_at, root_at}
use Rattle.keeper_core.specs.Beside.{Beside, by_own, on_store}
use Rattle.keeper_core.specs.Store.{Store}
use Rattle.load_rows.specs.Loading.{Loading}
use Rattle.load_rows.specs.Reading.{identity_key}
use Rattle.load_calls.specs.Reading as load_calls
use Rattle.load_calls.specs.Refreshing.{read_cells}
use Rattle.load_targets.specs.Targets.{load_key}
use Rattle.load_queries.specs.Selectin.{load_query}
use Rattle.load_steps.specs.Based.{AreReadOfTables, IsRowOfTables}
use Rattle.load_steps.specs.Loads.{CanLoad, IsLoadStage, Load}
use Rattle.load_steps.specs.Loaded.{AreReadFrom}
use Rattle.load_steps.specs.Noted.{AreNotedSince}
use Rattle.load_steps.specs.Steps.{AreFound, AreLoadSteps, IsEnd, IsFound, IsOver}
use Rattle.load_steps.proofs.Filling.{fills_made}
use Rattle.load_steps.proofs.Lasting.{AreOfMapping, found_since, lasting_steps}
use Rattle.load_steps.proofs.Joined.{query_load}
use Rattle.load_steps.proofs.Lazily.{cells_read, key_keeps}
use Rattle.load_steps.proofs.Loaded.{none_read, read_steps}
use Rattle.load_steps.proofs.Loads.{load_leaves, standing_found}
use Rattle.load_steps.proofs.Noted.{noted_steps}
use Rattle.ranked_rows.specs.Laws.{MainSelectsAnswerTableRows, OwnSelectsAnswerTableRows, SelectsAnswerTableRows}
use Rattle.session_calls.specs.Parts.{World}
use Rattle.session_laws.specs.Loads.{IsLoadOf, loading_of}
use Rattle.session_laws.specs.Whole.{IsHale}
use Rattle.session_laws.proofs.Loads.Laws.{loaded_hale}
use Rattle.session_laws.proofs.Loads.Objects.{loaded_anew}
use Rattle.session_laws.proofs.OwnRows.Standing.{hierarchies}
use Rattle.session_load_laws.specs.Loads.{LoadsKeepSessionsWhole, LoadsLeaveLoaded, MayLoad, loaded_by, taken_in}
use Rattle.session_laws.proofs.Bridge.{loaded_bridge}

module _ (selects : SelectsAnswerTableRows) (owns : OwnSelectsAnswerTableRows) (mains : MainSelectsAnswerTableRows) (world : World) (hale : IsHale world) where
  abbrev mapped : Mapped
  mapped = world.own.mapping

  abbrev tables : Tables
  tables = world.store.tables

  abbrev start : Graph
  start = world.own.graph

  abbrev IsRow : ClassId → List Value → Type 0
  IsRow = IsRowOfTables mapped tables

  abbrev AreCells : ClassId → List AttrNo → List Value → List Value → Type 0
  AreCells = AreReadOfTables mapped tables

  has : HasHierarchies mapped
  has = hierarchies mapped hale.keyed.well

  legal : AreSound mapped.schema tables
  legal = record { legal = hale.healthy.sound.legal; ascending = hale.healthy.tidy.ascending.tables }

  stage : IsLoadStage mapped IsRow AreCells (loading_of world)
  stage = record { has = has; related = hale.keyed.well.related; arena = record { fit = hale.keyed.fit; graph = hale.healthy.sound.graph }; answers = selects mapped tables has legal }

  can : (load : Load) → MayLoad load world → CanLoad mapped IsRow AreCells (loading_of world) load
  can (Load.Cells object) may = may
  can (Load.Rows object attrs) may = may
  can (Load.Taken object attrs rows) may = may
  can (Load.Link object place) may = may
  can (Load.Key class key) may = may
  can (Load.Links class objects places) may = may
  can (Load.Objects query) may = (may.0.class, may.1, owns mapped tables query has legal may.0)
  can (Load.Query query) may = (may.0.own.class, may.1, may.2, mains mapped tables query has hale.keyed.well.related legal may.0)

  of_mapping : AreOfMapping mapped IsRow AreCells
  of_mapping = record { has = has; rows = λ class row is. is.0.of; cells = λ class attrs key row count is. is.0 count }

  none_noted : AreNotedSince start (loading_of world).own
  none_noted = λ object made. inr (record { made = made; same = refl })

  reading_steps : AreLoadSteps mapped IsRow AreCells (λ own. AreReadFrom mapped tables start own.graph)
  reading_steps = read_steps mapped tables start IsRow AreCells has (λ class row is. is.1) (λ class attrs key row is. is.1)

  -- ---- what a load answers

  begun : IsOver mapped (λ own. AreReadFrom mapped tables start own.graph) world.store (loading_of world)
  begun = record { holds = record { arena = stage.arena; is = none_read mapped tables start }; store = refl }

  -- an object that has been made
  pub key_told : (class : ClassId) (key : List Value) → IsClass mapped class
      → IfOk (load_key mapped class key (loading_of world)).answer (λ end. IsEnd (load_key mapped class key (loading_of world)).after.own.graph (root_of mapped class) end)
  key_told class key declared = ((key_keeps of_mapping reading_steps world.store stage.answers class key declared).left (loading_of world) begun).answer

  pub query_told : (query : ObjectQuery) → MayLoad (Load.Query query) world
      → IfOk (load_query mapped query (loading_of world)).answer (λ objects. AreFound (load_query mapped query (loading_of world)).after.own.graph (root_of mapped query.class) objects)
  unfolding load_query
  query_told query may =
      let given = can (Load.Query query) may in
      ((query_load of_mapping stage.related reading_steps world.store stage.answers query given.0 given.1 given.2 given.3).left (loading_of world) begun).answer

  -- rows of some cells of an object, of the tables
  pub cells_told : (object : ObjId) (attrs : List AttrNo) → MayLoad (Load.Rows object attrs) world
      → IfOk (read_cells mapped object attrs (loading_of world)).answer (λ rows. AllByRecursion (AreCells (object_at start object).class attrs (identity_key start object)) rows)
  unfolding read_cells by_own load_calls.read on_store
  cells_told object attrs may =
      let root : ClassId = root_at start object in
      let steps = lasting_steps of_mapping (λ graph. IsFound graph root object) (λ old new since found. found_since root object old new since found) in
      ((cells_read of_mapping steps world.store stage.answers root object (λ own found. found) attrs).left (loading_of world)
      (record { holds = record { arena = stage.arena; is = standing_found start object stage.arena.graph may.0 }; store = refl }, may.1)).answer

  module _ (load : Load) (may : MayLoad load world) where
    abbrev done : Beside Loading
    done = loaded_by load world

    pub leaves : IsLoadOf world done.own × (done.store ≡ world.store)
    leaves =
        let read = load_leaves of_mapping reading_steps (loading_of world) stage (none_read mapped tables start) load (can load may) in
        let noted = load_leaves of_mapping (noted_steps mapped IsRow AreCells start has (fills_made mapped IsRow has (λ class row is. is.0.wide))) (loading_of world) stage none_noted load (can load may) in
        (loaded_bridge mapped tables start done.own read.holds.arena read.holds.is noted.holds.is, read.store)

pub leaves_law : SelectsAnswerTableRows → OwnSelectsAnswerTableRows → MainSelectsAnswerTableRows → LoadsLeaveLoaded
leaves_law selects owns mains load world may hale = leaves selects owns mains world hale load may

pub whole_law : LoadsLeaveLoaded → LoadsKeepSessionsWhole
whole_law law load world opened may hale =
    let left = law load world may hale in
    let own : Loading = (loaded_by load world).own in
    subst (λ (store : Store). IsHale (taken_in (record { own = own; store = store }) world)) (sym left.1) (loaded_hale own world opened (loaded_anew world own left.0) hale)
