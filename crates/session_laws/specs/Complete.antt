-- When a flush answers, and the calls that flush.
use Rattle.std.specs.Prelude.{◌≡◌, ◌<◌, ℕ, true, false, List, length, slice_get, slice_index_or, Some, Ok, Err}
use Rattle.std.specs.List.{AllByRecursion, list_any}
use Rattle.base_core.specs.declared.ids.ClassId.{ClassId}
use Rattle.base_core.specs.declared.ids.TableId.{TableId}
use Rattle.base_core.specs.declared.refusal.Refusal.TheVariants.{NotBuilt}
use Rattle.base_core.specs.declared.value.Value.{Value}
use Rattle.base_core.specs.declared.value.Value.TheVariants.{Null}
use Rattle.schema_core.specs.declared.changes.GoneRow.{GoneRow}
use Rattle.schema_core.specs.declared.changes.RowChanges.{RowChanges}
use Rattle.schema_core.specs.declared.table.ColumnSpec.{ColumnSpec}
use Rattle.schema_core.specs.declared.table.ForeignSpec.{ForeignSpec}
use Rattle.schema_core.specs.Catalog.{has_name, spec_of}
use Rattle.schema_core.specs.DependencyOrder.{is_among}
use Rattle.schema_core.specs.Tables.{Legal, Tables}
use Rattle.class_layouts.specs.Columns.{is_shown}
use Rattle.class_mapping.specs.Mapped.{Mapped, line_of, tables_of}
use Rattle.object_arena.specs.Graph.{Graph, object_at}
use Rattle.flush_order.specs.Orders.{delete_order, gone_rows, insert_order, place_of_gone}
use Rattle.flush_plan.specs.Flushing.{Sofar}
use Rattle.flush_plan.specs.Stating.{all_placed, guess, row_at, stated_tables}
use Rattle.object_rows.specs.declared.prepared.Prepared.{Prepared}
use Rattle.row_project.specs.Changes.{project}
use Rattle.prepared_objects.specs.Leaving.{prepared_of}
use Rattle.savepoints.specs.Scopes.{scope_limit}
use Rattle.session_scopes.specs.SessionState.{in_transaction}
use Rattle.session_calls.specs.Parts.{World}
use Rattle.session_calls.specs.Steps.{enter}
use Rattle.session_acts.specs.Flush.{flush, prepare}
use Rattle.session_acts.specs.Steps.{begin_nested, commit, flush_now}
use Rattle.session_laws.specs.Flushes.{prepared_world}
use Rattle.session_laws.specs.Plans.Laws.{changes_to_write}
use Rattle.session_laws.specs.Plans.Premises.{IsClear}
use Rattle.session_laws.specs.Preparing.{IsReadable}
use Rattle.session_laws.specs.Sound.{IsSound}

-- ---- what is stated

-- what objects change, that have been read as far as a flush has to know them
abbrev pub changes_by : Mapped → Graph → RowChanges
changes_by mapped graph = project mapped graph (prepared_of mapped graph)

-- The second tables are those that the objects state over the first, where their new rows have an order: the rows of deleted objects
-- and of pairs that are taken away are gone, changed cells are written, new rows are put in, and every other row is as it was.
abbrev pub ObjectsState : Mapped → Graph → Tables → Tables → Type 0
ObjectsState mapped graph old after =
    (order : List ℕ) × (insert_order mapped.schema (changes_by mapped graph) ≡ Ok order) × (stated_tables mapped.schema old (changes_to_write (changes_by mapped graph)) order ≡ Some after)

-- What the objects state can be written: the new rows have an order, and the deleted ones, so there is no cycle; their keys can be
-- generated; tables are stated, and are legal; no unique value of an old row is held by another row then; and no foreign key that
-- is given as a value equals the key of a new row that is not known before it is drawn.
pub record IsWritable (mapped : Mapped) (graph : Graph) (old after : Tables) : Type 0 where
  pub order : List ℕ
  pub ordered : insert_order mapped.schema (changes_by mapped graph) ≡ Ok order
  pub gone : List ℕ
  pub gone_ordered : delete_order mapped.schema (changes_by mapped graph) (gone_rows mapped.schema (changes_by mapped graph)) ≡ Ok gone
  pub placed : Sofar
  pub keys : all_placed mapped.schema (changes_by mapped graph) old order ≡ Some placed
  pub states : stated_tables mapped.schema old (changes_to_write (changes_by mapped graph)) order ≡ Some after
  pub legal : Legal mapped.schema after
  pub clear : IsClear mapped.schema old after
  pub no_guess : guess mapped.schema old (changes_by mapped graph) order placed.keys ≡ false

-- ---- what deleted rows hold

-- a row in a table of a class holds NULL in each column of a foreign key that is no attribute of the class, since another class owns it
abbrev pub HasNoOtherLinks : Mapped → ClassId → TableId → List Value → Type 0
HasNoOtherLinks mapped class table row =
    (number : ℕ) (column : ColumnSpec) → slice_get (spec_of mapped.schema table).columns number ≡ Some column → is_shown mapped.schema.tables mapped.classes (line_of mapped class) table column.name ≡ false
    → list_any (λ (foreign : ForeignSpec). has_name foreign.columns column.name) (spec_of mapped.schema table).foreigns ≡ true → slice_index_or row number Null ≡ Null

-- so does what stands under the key of a deleted row of an object, in a table of its class
abbrev pub StandsWithoutOtherLinks : Mapped → Graph → Tables → GoneRow → Type 0
StandsWithoutOtherLinks mapped graph old gone =
    (row : List Value) → is_among (tables_of mapped (object_at graph gone.name.object).class) gone.name.table ≡ true → row_at old (place_of_gone mapped.schema gone) ≡ Some row
    → HasNoOtherLinks mapped (object_at graph gone.name.object).class gone.name.table row

-- so do all rows that are deleted, and not switched; where no class owns columns, all rows do
abbrev pub DeletedHaveNoOtherLinks : Mapped → Graph → Prepared → Tables → Type 0
DeletedHaveNoOtherLinks mapped graph prepared old = AllByRecursion (StandsWithoutOtherLinks mapped graph old) (project mapped graph prepared).gone

-- ---- what can be written

-- the objects of a session when its transaction has begun, and all is read that is to be known of those that are to be deleted
abbrev pub graph_read : World → Graph
graph_read world = (prepared_world (enter world).after).own.graph

-- What the objects of a session state can be written, and leaves these tables: no rollback is awaited; what is to be known of the objects
-- that are to be deleted can be read; what they state then can be written; and no row that is deleted holds a value in a column of a
-- foreign key that another class owns.
pub record CanBeWritten (world : World) (after : Tables) : Type 0 where
  pub well : world.own.failed ≡ false
  pub prepared : (prepare (enter world).after).answer ≡ Ok tt
  pub writable : IsWritable world.own.mapping (graph_read world) world.store.tables after
  pub links : DeletedHaveNoOtherLinks world.own.mapping (graph_read world) (prepared_of world.own.mapping (graph_read world)) world.store.tables

-- ---- the laws, of sound sessions over legal tables whose objects fit, whether their keys have been changed or not

-- a flush of what can be written answers, and leaves the stated tables
abbrev pub FlushesAnswer : Type 0
FlushesAnswer =
    (world : World) (after : Tables) → IsReadable world → IsSound world → CanBeWritten world after → ((flush_now world).answer ≡ Ok tt) × ((flush_now world).after.store.tables ≡ after)

-- and so does a commit
abbrev pub CommitsAnswer : Type 0
CommitsAnswer =
    (world : World) (after : Tables) → IsReadable world → IsSound world → CanBeWritten world after → ((commit world).answer ≡ Ok tt) × ((commit world).after.store.tables ≡ after)

-- and the beginning of a savepoint, where fewer than 64 are open
abbrev pub SavepointsAnswer : Type 0
SavepointsAnswer =
    (world : World) (after : Tables) → IsReadable world → IsSound world → CanBeWritten world after → length world.own.frames.scopes < scope_limit
    → (handle : ℕ) × ((begin_nested world).answer ≡ Ok handle) × ((begin_nested world).after.store.tables ≡ after)

-- no flush is refused as not built: each statement of its plan fits the schema
abbrev pub FlushesAreBuilt : Type 0
FlushesAreBuilt = (world : World) → IsReadable world → IsSound world → (flush_now world).answer ≡ Err NotBuilt → ⊥

-- a flush that answers leaves what the objects state, once they are read
abbrev pub FlushesLeaveStatedRows : Type 0
FlushesLeaveStatedRows =
    (world : World) → IsReadable world → IsSound world → (flush_now world).answer ≡ Ok tt → ObjectsState world.own.mapping (graph_read world) world.store.tables (flush_now world).after.store.tables

-- and so does a commit
abbrev pub CommitsLeaveStatedRows : Type 0
CommitsLeaveStatedRows =
    (world : World) → IsReadable world → IsSound world → (commit world).answer ≡ Ok tt → ObjectsState world.own.mapping (graph_read world) world.store.tables (commit world).after.store.tables

-- and the beginning of a savepoint
abbrev pub SavepointsLeaveStatedRows : Type 0
SavepointsLeaveStatedRows =
    (world : World) (handle : ℕ) → IsReadable world → IsSound world → (begin_nested world).answer ≡ Ok handle
    → ObjectsState world.own.mapping (graph_read world) world.store.tables (begin_nested world).after.store.tables

-- and the flush of a session in its transaction
abbrev pub FlushesInsideLeaveStatedRows : Type 0
FlushesInsideLeaveStatedRows =
    (world : World) → in_transaction world.own ≡ true → IsReadable world → IsSound world → (flush world).answer ≡ Ok tt
    → ObjectsState world.own.mapping (prepared_world world).own.graph world.store.tables (flush world).after.store.tables
