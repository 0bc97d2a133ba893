-- Sessions whose objects can be written, once their transaction has begun and all is read that is to be known.
use Rattle.std.proofs.Common.{◌≡◌, true, Ok, sym, subst}
use Rattle.schema_core.specs.Tables.{Tables}
use Rattle.class_mapping.specs.Mapped.{Mapped}
use Rattle.object_arena.specs.Graph.{Graph}
use Rattle.object_rows.specs.declared.prepared.Prepared.{Prepared}
use Rattle.keeper_core.specs.Store.{Store}
use Rattle.prepared_objects.specs.Leaving.{prepared_of}
use Rattle.session_scopes.specs.SessionState.{in_transaction}
use Rattle.session_calls.specs.Parts.{World}
use Rattle.session_calls.specs.Steps.{enter}
use Rattle.session_acts.specs.Flush.{prepare}
use Rattle.session_laws.specs.Flushes.{prepared_world}
use Rattle.session_laws.specs.OwnRows.{StandInTables}
use Rattle.session_laws.specs.Preparing.{IsReadable, PreparationsKnowAll, PreparationsLeaveReread}
use Rattle.session_laws.specs.Sound.{IsSound}
use Rattle.session_laws.specs.Complete.{CanBeWritten, DeletedHaveNoOtherLinks, IsWritable, graph_read}
use Rattle.session_laws.proofs.Flushes.Reading.{prepare_mapping, prepare_store}
use Rattle.session_laws.proofs.Health.Acts.{once_begun}
use Rattle.session_laws.proofs.Held.Ascending.{ascending_sorted}
use Rattle.session_laws.proofs.OwnRows.Standing.{hierarchies, own_rows}
use Rattle.session_laws.proofs.Preparing.{prepare_readable, prepare_sound}
use Rattle.session_laws.proofs.Sound.Beginning.{enter_sound, entered_open}
use Rattle.session_laws.proofs.SoundFlushes.Told.{stand}
use Rattle.session_laws.proofs.Whole.Reads.{enter_readable}
use Rattle.session_laws.proofs.Complete.Answering.{IsOpened, enter_answers}
use Rattle.session_laws.proofs.Complete.Reading.{all_read}
use Rattle.session_laws.proofs.Complete.Written.{IsReady, world_read}

-- ---- the transaction has begun, and all is read

-- the mapping and the tables are as they were before
pub prepared_over : (w : World) (P : Mapped → Tables → Type 0) → P w.own.mapping w.store.tables → P (prepared_world w).own.mapping (prepared_world w).store.tables
prepared_over w P holds =
    subst (λ (m : Mapped). P m (prepared_world w).store.tables) (sym (prepare_mapping w)) (subst (λ (s : Store). P w.own.mapping s.tables) (sym (prepare_store w)) holds)

pub read_over : (w : World) (P : Mapped → Tables → Type 0) → P w.own.mapping w.store.tables → P (world_read w).own.mapping (world_read w).store.tables
read_over w P holds = prepared_over (enter w).after P (once_begun (λ mapped graph tables. P mapped tables) w holds)

module _ (reads : PreparationsLeaveReread) (knows : PreparationsKnowAll) where
  -- in a transaction the objects stand in the tables, when what is to be known of them is read
  pub stands_read : (w : World) → in_transaction w.own ≡ true → IsReadable w → IsSound w → (prepare w).answer ≡ Ok tt
      → StandInTables (prepared_world w).own.mapping (prepared_world w).own.graph (prepared_of (prepared_world w).own.mapping (prepared_world w).own.graph) (prepared_world w).store.tables
  stands_read w inside can sound prepared = stand (prepared_world w) (prepare_readable reads w can) (prepare_sound reads w can inside sound) (knows w can prepared)

  -- and then the plan of what they change rests on them
  is_ready : (w : World) → in_transaction w.own ≡ true → IsReadable w → IsSound w → (prepare w).answer ≡ Ok tt
      → (let mid = prepared_world w in DeletedHaveNoOtherLinks mid.own.mapping mid.own.graph (prepared_of mid.own.mapping mid.own.graph) mid.store.tables)
      → IsReady (prepared_world w).own.mapping (prepared_world w).own.graph (prepared_world w).store.tables
  is_ready w inside can sound prepared links =
      let mid : World = prepared_world w in
      let decided : Prepared = prepared_of mid.own.mapping mid.own.graph in
      let readable : IsReadable mid = prepare_readable reads w can in
      let stands = stands_read w inside can sound prepared in
      let own = own_rows mid.own.mapping mid.own.graph decided mid.store.tables stands in
      record {
        well = readable.well;
        hierarchies = hierarchies mid.own.mapping readable.well;
        is = readable.one;
        legal = readable.tables.legal;
        sorted = ascending_sorted mid.store.tables readable.tables.ascending;
        told = record { fit = own.fit; keyed = own.keyed; read = all_read mid.own.mapping mid.own.graph decided mid.store.tables stands own.keyed links };
      }

  pub opened : (w : World) (after : Tables) → IsReadable w → IsSound w → CanBeWritten w after → IsOpened w after
  opened w after can sound written =
      let graph : Graph = graph_read w in
      record {
        well = written.well;
        prepared = written.prepared;
        ready = is_ready (enter w).after (entered_open w tt (enter_answers w written.well)) (enter_readable w can) (enter_sound w sound) written.prepared
            (read_over w (λ mapped tables. DeletedHaveNoOtherLinks mapped graph (prepared_of mapped graph) tables) written.links);
        writable = read_over w (λ mapped tables. IsWritable mapped graph tables after) written.writable;
      }
