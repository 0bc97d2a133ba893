-- What every load leaves over legal tables, whatever it answers.
use Rattle.std.proofs.Common.{◌≤◌, inr, length, refl}
use Rattle.std.proofs.lemmas.List.Elements.{recursion_from_All}
use Rattle.schema_core.specs.Tables as held
use Rattle.class_mapping.specs.Mapped.{Mapped}
use Rattle.class_mapping.specs.Related.{AreRelated}
use Rattle.mapping_laws.specs.Hierarchies.{HasHierarchies}
use Rattle.load_calls.specs.Reading.{World}
use Rattle.load_queries.specs.Selectin.{IsOption}
use Rattle.table_laws.specs.Legality.{AreSound}
use Rattle.load_steps.specs.Based.{AreReadOfTables, IsRowOfTables}
use Rattle.load_steps.specs.Loads.{CanLoad, Cells, IsLoadStage, Key, Link, Links, Load, Objects, Query, Rows, Taken}
use Rattle.load_steps.specs.Rows.{AnswerRows}
use Rattle.load_steps.specs.Steps.{AreLoadSteps, IsArena}
use Rattle.load_steps.proofs.Based.{based_steps}
use Rattle.load_steps.proofs.Filling.{fills_made}
use Rattle.load_steps.proofs.Loaded.{none_read, read_steps}
use Rattle.load_steps.proofs.Loads.{load_leaves, rows_of_tables}
use Rattle.load_steps.proofs.Noted.{noted_steps}
use Rattle.ranked_rows.specs.Loads.{CanLoadOver, LoadsOverLegalTables}
use Rattle.ranked_rows.proofs.Cells.{cells_answered, cells_wide}
use Rattle.ranked_rows.proofs.Classes.{keyed, members, own_answered, targets}
use Rattle.ranked_rows.proofs.Pairs.{batches}
use Rattle.ranked_rows.proofs.Parts.{joined_answered}

-- the selects of links and cells answer rows of the tables
pub answer_rows : (mapped : Mapped) (tables : held.Tables) → HasHierarchies mapped → AreSound mapped.schema tables → AnswerRows mapped (IsRowOfTables mapped tables) (AreReadOfTables mapped tables) tables
answer_rows mapped tables has sound = record {
  cells = λ class attrs key less inside fits. cells_answered mapped tables sound has class less attrs key inside fits;
  keyed = λ class key less. keyed mapped tables sound has class less key;
  targets = λ class keys less. targets mapped tables sound has class less keys;
  members = λ relation key related many. members mapped tables sound has relation related.target key;
  batches = λ relation keys related many. batches mapped tables sound has relation related keys;
}

-- and rows of cells with a value for each attribute
pub wide_cells : (mapped : Mapped) (tables : held.Tables) → HasHierarchies mapped → AreSound mapped.schema tables → AnswerRows mapped (IsRowOfTables mapped tables) (λ class attrs key row. length attrs ≤ length row) tables
wide_cells mapped tables has sound =
    let rows = answer_rows mapped tables has sound in
    record {
      cells = λ class attrs key less inside fits. cells_wide mapped tables sound has class less attrs key inside fits;
      keyed = rows.keyed;
      targets = rows.targets;
      members = rows.members;
      batches = rows.batches;
    }

no_steps : (mapped : Mapped) (tables : held.Tables) → AreLoadSteps mapped (IsRowOfTables mapped tables) (AreReadOfTables mapped tables) (λ own. Unit {0})
no_steps mapped tables = record {
  noted = λ statement own is. tt;
  taken = λ class row own declared of arena is. tt;
  filled = λ root object attrs row own found of arena is. tt;
  members = λ relation place owner members own related many child found arena is. tt;
  ended = λ relation place owner end own related single child found arena is. tt;
}

module _ (mapped : Mapped) (w : World) (has : HasHierarchies mapped) (related : AreRelated mapped) (arena : IsArena mapped w.own.graph) (sound : AreSound mapped.schema w.store.tables) where
  abbrev tables : held.Tables
  tables = w.store.tables

  stage : IsLoadStage mapped (IsRowOfTables mapped tables) (AreReadOfTables mapped tables) w
  stage = record { has = has; related = related; arena = arena; answers = answer_rows mapped tables has sound }

  can_load : (load : Load) → CanLoadOver mapped w load → CanLoad mapped (IsRowOfTables mapped tables) (AreReadOfTables mapped tables) w load
  can_load (Cells object) can = can
  can_load (Rows object attrs) can = can
  can_load (Taken object attrs rows) can = can
  can_load (Link object place) can = can
  can_load (Key class key) can = can
  can_load (Links class objects places) can = can
  can_load (Objects query) can = (can.1.class, can.0, own_answered mapped tables query has sound can.1)
  can_load (Query query) can = (
    can.1.own.class,
    recursion_from_All (IsOption mapped query.class) query.joined can.1.places,
    can.0,
    joined_answered mapped tables sound has related query can.1,
  )

pub over_legal : LoadsOverLegalTables
over_legal = λ mapped load w has related arena sound asked.
    let of = rows_of_tables mapped w.store.tables has in
    let start_is = stage mapped w has related arena sound in
    let can = can_load mapped w has related arena sound load asked in
    let left = load_leaves of (no_steps mapped w.store.tables) w start_is tt load can in
    let noted = noted_steps mapped (IsRowOfTables mapped w.store.tables) (AreReadOfTables mapped w.store.tables) w.own.graph has (fills_made mapped (IsRowOfTables mapped w.store.tables) has (λ class row is. is.0.wide)) in
    let based = based_steps mapped w.store.tables (IsRowOfTables mapped w.store.tables) (AreReadOfTables mapped w.store.tables) has (λ class row is. is.1) (λ class attrs key row is. is.1) in
    let read = read_steps mapped w.store.tables w.own.graph (IsRowOfTables mapped w.store.tables) (AreReadOfTables mapped w.store.tables) has (λ class row is. is.1) (λ class attrs key row is. is.1) in
    record {
      arena = left.holds.arena;
      store = left.store;
      noted = (load_leaves of noted w start_is (λ object made. inr (record { made = made; same = refl })) load can).holds.is;
      read = (load_leaves of read w start_is (none_read mapped w.store.tables w.own.graph) load can).holds.is;
      based = λ before. (load_leaves of based w start_is before load can).holds.is;
    }
