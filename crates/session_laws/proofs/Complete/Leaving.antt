-- A flush that answers leaves the rows that the objects state.
use Rattle.std.proofs.Common.{◌≡◌, Ok, sym, ap, ◌∙◌, subst}
use Rattle.schema_core.specs.Tables.{Tables}
use Rattle.class_mapping.specs.Mapped.{Mapped}
use Rattle.prepared_objects.specs.Leaving.{prepared_of}
use Rattle.session_laws.proofs.Held.After.{order_made}
use Rattle.session_laws.proofs.Held.Ascending.{ascending_sorted}
use Rattle.session_acts.specs.Flush.{flush}
use Rattle.session_acts.specs.Outcome.{changes_of}
use Rattle.session_laws.specs.Flushes.{SendsItsPlan, prepared_world}
use Rattle.session_laws.specs.Stating.{LeavesStatedRows}
use Rattle.session_calls.specs.Parts.{World, checked}
use Rattle.session_calls.specs.Steps.{enter}
use Rattle.keeper_core.specs.Programs.{Run, ◌>>=◌}
use Rattle.session_acts.specs.Savepoints.{begin_savepoint, commit_whole, enter_nested, limit_fault}
use Rattle.session_acts.specs.Steps as acts
use Rattle.session_acts.specs.Steps.{flush_now}
use Rattle.session_laws.specs.Preparing.{IsReadable, PreparationsKnowAll, PreparationsLeaveReread}
use Rattle.session_laws.specs.Sound.{IsSound}
use Rattle.session_laws.specs.Complete.{CommitsLeaveStatedRows, FlushesInsideLeaveStatedRows, FlushesLeaveStatedRows, ObjectsState, SavepointsLeaveStatedRows, graph_read}
use Rattle.session_laws.proofs.Flushes.Answered.{joined_of}
use Rattle.session_laws.proofs.Flushes.Flushing.{flush_sent}
use Rattle.session_laws.proofs.Health.Acts.{once_begun}
use Rattle.session_laws.proofs.OwnRows.Standing.{own_rows}
use Rattle.session_laws.proofs.Preparing.{prepare_readable}
use Rattle.session_laws.proofs.Sound.Beginning.{enter_sound, entered_open}
use Rattle.session_laws.proofs.Sound.Programs.{checked_same}
use Rattle.session_laws.proofs.Whole.Reads.{enter_readable}
use Rattle.session_laws.proofs.Complete.Answering.{begun, whole_committed}
use Rattle.session_laws.proofs.Complete.Opened.{prepared_over, stands_read}

module _ (reads : PreparationsLeaveReread) (knows : PreparationsKnowAll) (sends : SendsItsPlan) (leaves : LeavesStatedRows) where
  pub inside_leaves : FlushesInsideLeaveStatedRows
  inside_leaves w inside can sound is =
      let mid : World = prepared_world w in
      let sent = sends w is in
      let order = order_made mid.own.mapping.schema (changes_of mid.own) sent.0 sent.2 in
      let readable : IsReadable mid = prepare_readable reads w can in
      let stands = stands_read reads knows w inside can sound (flush_sent w is).prepared in
      let left : ObjectsState mid.own.mapping mid.own.graph mid.store.tables (flush w).after.store.tables = (
        order.0,
        order.1,
        leaves w order.0
            (record {
              mapped = readable.well;
              own = own_rows mid.own.mapping mid.own.graph (prepared_of mid.own.mapping mid.own.graph) mid.store.tables stands;
              sorted = ascending_sorted mid.store.tables readable.tables.ascending;
              legal = readable.tables.legal;
              ordered = order.1;
            })
            is,
      ) in
      let State : Mapped → Tables → Type 0 = λ mapped tables. ObjectsState mapped mid.own.graph tables (flush w).after.store.tables in
      prepared_over w (λ mapped tables. State mapped tables → State w.own.mapping w.store.tables) (λ states. states) left

  -- in the transaction that the call begins
  begun_leaves : (w : World) → IsReadable w → IsSound w → (enter w).answer ≡ Ok tt → (flush (enter w).after).answer ≡ Ok tt → ObjectsState w.own.mapping (graph_read w) w.store.tables (flush (enter w).after).after.store.tables
  begun_leaves w can sound entered is =
      let v : World = (enter w).after in
      let State : Mapped → Tables → Type 0 = λ mapped tables. ObjectsState mapped (graph_read w) tables (flush v).after.store.tables in
      once_begun (λ mapped graph tables. State mapped tables → State w.own.mapping w.store.tables) w (λ states. states) (inside_leaves v (entered_open w tt entered) (enter_readable w can) (enter_sound w sound) is)

  pub flush_leaves : FlushesLeaveStatedRows
  unfolding flush_now
  flush_leaves w can sound is =
      let goes = joined_of enter (λ u. flush) w tt is in
      let left : (flush_now w).after.store.tables ≡ (flush (enter w).after).after.store.tables = ap (λ (x : World). x.store.tables) goes.after in
      subst (ObjectsState w.own.mapping (graph_read w) w.store.tables) (sym left) (begun_leaves w can sound goes.first goes.second)

  pub commit_leaves : CommitsLeaveStatedRows
  unfolding acts.commit
  commit_leaves w can sound is =
      let goes = joined_of flush_now (λ u. commit_whole) w tt is in
      let left : (acts.commit w).after.store.tables ≡ (flush_now w).after.store.tables = ap (λ (x : World). x.store.tables) goes.after ∙ (whole_committed (flush_now w).after).left in
      subst (ObjectsState w.own.mapping (graph_read w) w.store.tables) (sym left) (flush_leaves w can sound goes.first)

  -- the savepoint begins once the rows are left
  pub begin_leaves : SavepointsLeaveStatedRows
  unfolding acts.begin_nested enter_nested
  begin_leaves w handle can sound is =
      let first : World → Run World (Unit {0}) = enter >>= λ u. checked limit_fault in
      let goes = joined_of first (λ u. flush >>= λ u. begin_savepoint) w handle is in
      let entered = joined_of enter (λ u. checked limit_fault) w tt goes.first in
      let v : World = (enter w).after in
      let same : (first w).after ≡ v = entered.after ∙ checked_same limit_fault v in
      let done = joined_of flush (λ u. begin_savepoint) (first w).after handle goes.second in
      let answered : (flush v).answer ≡ Ok tt = subst (λ (x : World). (flush x).answer ≡ Ok tt) same done.first in
      let left : (acts.begin_nested w).after.store.tables ≡ (flush v).after.store.tables =
      ap (λ (x : World). x.store.tables) (goes.after ∙ done.after) ∙ (begun (flush (first w).after).after).answered.left ∙ ap (λ (x : World). (flush x).after.store.tables) same in
      subst (ObjectsState w.own.mapping (graph_read w) w.store.tables) (sym left) (begun_leaves w can sound entered.first answered)
