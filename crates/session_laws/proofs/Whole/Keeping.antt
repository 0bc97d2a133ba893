-- What programs of a session keep of it where each of its steps does, whatever they answer.
use Rattle.std.proofs.Common.{ℕ, ◌+◌, zero, suc, Bool, true, false, List, [], ◌∷◌, Option, None, Some, Result, Ok, Err}
use Rattle.std.specs.List.{AllByRecursion}
use Rattle.base_core.specs.declared.ids.ObjId.{ObjId}
use Rattle.base_core.specs.declared.ids.TableId.{TableId}
use Rattle.base_core.specs.declared.refusal.Refusal.{Refusal}
use Rattle.base_core.specs.declared.value.Value.{Value}
use Rattle.schema_core.specs.Catalog.{Catalog}
use Rattle.schema_core.specs.declared.changes.Planned.{Planned}
use Rattle.schema_core.specs.declared.changes.RowChanges.{RowChanges}
use Rattle.expr_types.specs.declared.select.Bulk.{Bulk}
use Rattle.expr_types.specs.declared.select.Select.{Select}
use Rattle.flush_plan.specs.Planning.{plan}
use Rattle.keeper_core.specs.Calls as call
use Rattle.table_laws.specs.Legality.{Keeps}
use Rattle.table_laws.proofs.EachJoin.{keeps_each, keeps_give, keeps_refuse, keeps_then}
use Rattle.object_rows.specs.declared.prepared.Prepared.{Prepared}
use Rattle.session_statements.specs.Run.{send_plan}
use Rattle.keeper_core.specs.Programs.{Event, Run, ◌>>=◌, ask, continue_from, each, give}
use Rattle.keeper_core.specs.Beside.{by_own, changes, on_own, on_store}
use Rattle.keeper_core.specs.Store.{Store}
use Rattle.row_project.specs.Changes.{project}
use Rattle.sql_semantics.specs.Applied.{table_of}
use Rattle.session_scopes.specs.Scoping.{session_closed, session_released}
use Rattle.session_scopes.specs.SessionState.{SessionState, in_transaction, with_notes, with_warnings}
use Rattle.session_calls.specs.Parts.{World, checked, unless}
use Rattle.session_calls.specs.Steps.{close, enter, roll_back_if}
use Rattle.session_acts.specs.Savepoints.{release_many, release_one, release_place}
use Rattle.session_objects.specs.Conflicts.{add_fault}
use Rattle.session_objects.specs.Leaving.{expunge_fault, session_expunged}
use Rattle.session_objects.specs.Steps.{add, add_inside, expunge, expunge_inside}
use Rattle.session_objects.specs.Taking.{session_added}
use Rattle.session_statements.specs.Rewriting.{session_reread}
use Rattle.session_statements.specs.Steps as statements
use Rattle.session_tables.specs.declared.tables.TableChange.{TableChange}
use Rattle.session_tables.specs.Steps.{change_all, change_in_store, change_one, order_for, transaction_fault}
use Rattle.session_acts.specs.Flush.{session_flushed, write_prepared, write_rows, write_warned}
use Rattle.session_laws.proofs.Flushes.Kept.{IsKeptByWrites, plan_keeps}

-- the session of a world has a property
abbrev pub Holds : (SessionState → Type 0) → World → Type 0
Holds P world = P world.own

module _ (P : SessionState → Type 0) (notes : (events : List Event) (own : SessionState) → P own → P (with_notes events own)) where
  -- ---- how programs are put together

  pub noted : {A : Type 0} (m : Store → Run Store A) → Keeps (Holds P) (on_store with_notes m)
  unfolding on_store
  noted m = record { kept = λ w has. notes (m w.store).events w.own has }

  pub changed : (f : SessionState → SessionState) → ((own : SessionState) → P own → P (f own)) → Keeps (Holds P) (changes f)
  unfolding changes
  changed f stays = record { kept = λ w has. stays w.own has }

  pub owned : {A : Type 0} (m : SessionState → Run SessionState A) → ((own : SessionState) → P own → P (m own).after) → Keeps (Holds P) (on_own m)
  unfolding on_own
  owned m stays = record { kept = λ w has. stays w.own has }

  pub chosen : {A : Type 0} (choose : SessionState → World → Run World A) → ((own : SessionState) → Keeps (Holds P) (choose own)) → Keeps (Holds P) (by_own choose)
  unfolding by_own
  chosen choose one = record { kept = λ w has. (one w.own).kept w has }

  pub joined : {A B : Type 0} (m : World → Run World A) (next : A → World → Run World B) → Keeps (Holds P) m → ((a : A) → Keeps (Holds P) (next a)) → Keeps (Holds P) (m >>= next)
  joined m next first later = keeps_then (Holds P) m next first (λ w a has is. later a)

  pub asked : (fault : SessionState → Option Refusal) → Keeps (Holds P) (checked fault)
  unfolding checked
  asked fault = chosen (λ own. unless (fault own)) (λ own. by (fault own))
    where
      by : (found : Option Refusal) → Keeps (Holds P) (unless found)
      by None = keeps_give (Holds P) tt
      by (Some e) = keeps_refuse (Holds P) e

  -- ---- calls that do not flush

  pub adds : Keeps (Holds P) enter → (object : ObjId) → ((own : SessionState) → P own → P (session_added object own)) → Keeps (Holds P) (add object)
  unfolding add
  adds entered object stays =
      joined enter (λ u. add_inside object) entered
      (λ u. joined (checked (add_fault object)) (λ u. changes (session_added object)) (asked (add_fault object)) (λ u. changed (session_added object) stays))

  pub expunges : Keeps (Holds P) enter → (object : ObjId) → ((own : SessionState) → P own → P (session_expunged object own)) → Keeps (Holds P) (expunge object)
  unfolding expunge
  expunges entered object stays =
      joined enter (λ u. expunge_inside object) entered
      (λ u. joined (checked (expunge_fault object)) (λ u. changes (session_expunged object)) (asked (expunge_fault object)) (λ u. changed (session_expunged object) stays))

  one_table : (change : TableChange) (table : TableId) (u : Unit {0}) → Keeps (Holds P) (change_one change table u)
  unfolding change_one
  one_table change table u = joined (on_store with_notes (change_in_store change table)) (λ done. give tt) (noted (change_in_store change table)) (λ done. keeps_give (Holds P) tt)

  pub each_table : (change : TableChange) (order : List TableId) → AllByRecursion (λ table. (u : Unit {0}) → Keeps (Holds P) (change_one change table u)) order
  each_table change [] = tt
  each_table change (table ∷ order) = (one_table change table, each_table change order)

  pub tables : (change : TableChange) → Keeps (Holds P) (change_all change)
  unfolding change_all
  tables change =
      joined (checked transaction_fault) (λ u. by_own (λ session. each (change_one change) tt (order_for change session.mapping.schema))) (asked transaction_fault)
      (λ u.
      chosen (λ session. each (change_one change) tt (order_for change session.mapping.schema))
      (λ own. keeps_each (Holds P) (change_one change) tt (order_for change own.mapping.schema) (each_table change (order_for change own.mapping.schema))))

  pub closes : ((own : SessionState) → P own → P (session_closed own)) → Keeps (Holds P) close
  unfolding close
  closes stays =
      chosen (λ session. roll_back_if (in_transaction session) >>= λ u. changes session_closed)
      (λ own. joined (roll_back_if (in_transaction own)) (λ u. changes session_closed) (by (in_transaction own)) (λ u. changed session_closed stays))
    where
      by : (opened : Bool) → Keeps (Holds P) (roll_back_if opened)
      by true = noted call.rollback
      by false = keeps_give (Holds P) tt

  -- ---- the rows of a flush

  writes : (schema : Catalog) → IsKeptByWrites schema (Holds P)
  writes schema statement well = noted (call.write schema statement)

  pub sends_plan : (rows : RowChanges) (statements : List Planned) → Keeps (Holds P) (by_own (λ session. send_plan session.mapping.schema rows statements))
  sends_plan rows statements = chosen (λ session. send_plan session.mapping.schema rows statements) (λ own. plan_keeps own.mapping.schema rows (Holds P) (writes own.mapping.schema) statements)

  -- ---- what is done behind it

  module _ (released : (own : SessionState) → P own → P (session_released own)) where
    one_released : Keeps (Holds P) release_one
    unfolding release_one
    one_released = joined (on_store with_notes call.release) (λ u. changes session_released) (noted call.release) (λ u. changed session_released released)

    pub releases : (count : ℕ) → Keeps (Holds P) (release_many count)
    unfolding release_many
    releases zero = keeps_give (Holds P) tt
    releases (suc count) = joined release_one (λ u. release_many count) one_released (λ u. releases count)

    pub place_released : (place : Option ℕ) → Keeps (Holds P) (release_place place)
    place_released None = keeps_give (Holds P) tt
    place_released (Some place) = releases (place + 1)

  pub asks_rows : (select : Select) → Keeps (Holds P) (statements.rows select)
  unfolding statements.rows
  asks_rows select = chosen (λ session. on_store with_notes (call.query session.mapping.schema select)) (λ own. noted (call.query own.mapping.schema select))

  pub sends_bulk : (statement : Bulk) → ((own : SessionState) → P own → P (session_reread (table_of statement) own)) → Keeps (Holds P) (statements.bulk statement)
  unfolding statements.bulk statements.send_bulk
  sends_bulk statement reread =
      let table : TableId = table_of statement in
      joined (statements.send_bulk statement) (λ count. changes (session_reread table) >>= λ u. give count)
      (chosen (λ session. on_store with_notes (call.bulk session.mapping.schema statement)) (λ own. noted (call.bulk own.mapping.schema statement)))
      (λ count. joined (changes (session_reread table)) (λ u. give count) (changed (session_reread table) reread) (λ u. keeps_give (Holds P) count))

-- ---- one part after another

-- the world of the last part that was run has the property, where each of the two leaves it so
pub goes : {A B : Type 0} (P : World → Type 0) (m : World → Run World A) (next : A → World → Run World B) (w : World) → P (m w).after → ((a : A) → P (next a (m w).after).after) → P ((m >>= next) w).after
unfolding ◌>>=◌
goes {A = A} P m next w here later = by (m w).answer
  where
    by : (r : Result A Refusal) → P (continue_from (m w).events (m w).after r next).after
    by (Ok a) = later a
    by (Err e) = here

-- what is prepared is written: one property is kept until the objects stand as they were written, and another then
module _ (Q P : SessionState → Type 0) (notes : (events : List Event) (own : SessionState) → Q own → Q (with_notes events own)) (warned : (rows : RowChanges) (own : SessionState) → Q own → Q (with_warnings rows.warnings own)) (still : (own : SessionState) → Q own → P own) (prepared : Prepared) (flushed : (rows : RowChanges) (keys : List (List Value)) (own : SessionState) → Q own → P (session_flushed prepared rows keys own)) where
  rows_written : (rows : RowChanges) (w : World) → Q w.own → P (write_rows prepared rows w).after.own
  unfolding write_rows on_own ask changes
  rows_written rows w has =
      goes (Holds P) (on_own (ask (λ session. plan session.mapping.schema rows))) (λ statements. by_own (λ session. send_plan session.mapping.schema rows statements) >>= λ keys. changes (session_flushed prepared rows keys)) w (still w.own has)
      (λ statements.
      let v : World = (by_own (λ session. send_plan session.mapping.schema rows statements) w).after in
      let sent : Q v.own = (sends_plan Q notes rows statements).kept w has in
      goes (Holds P) (by_own (λ session. send_plan session.mapping.schema rows statements)) (λ keys. changes (session_flushed prepared rows keys)) w (still v.own sent) (λ keys. flushed rows keys v.own sent))

  warned_written : (rows : RowChanges) (w : World) → Q w.own → P (write_warned prepared rows w).after.own
  unfolding write_warned changes
  warned_written rows w has =
      let told : Q (with_warnings rows.warnings w.own) = warned rows w.own has in
      goes (Holds P) (changes (with_warnings rows.warnings)) (λ u. write_rows prepared rows) w (still (with_warnings rows.warnings w.own) told) (λ u. rows_written rows (changes (with_warnings rows.warnings) w).after told)

  pub prepared_written : (w : World) → Q w.own → P (write_prepared prepared w).after.own
  unfolding write_prepared by_own
  prepared_written w has = warned_written (project w.own.mapping w.own.graph prepared) w has
