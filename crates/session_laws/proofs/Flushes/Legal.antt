-- A flush leaves legal tables where it found them, whatever it answers.
use Rattle.std.proofs.Common.{◌≡◌, ℕ, Bool, true, false, ◌==◌, ◌-◌, List, length, refl, sym, ap, ◌∙◌, subst}
use Rattle.std.specs.Prelude.{if◌then◌else◌}
use Rattle.schema_core.specs.declared.changes.RowChanges.{RowChanges}
use Rattle.schema_core.specs.Catalog.{Catalog}
use Rattle.flush_plan.specs.Planning.{plan}
use Rattle.object_rows.specs.declared.prepared.Prepared.{Prepared}
use Rattle.row_project.specs.Changes.{project}
use Rattle.keeper_core.specs.Store.{Store}
use Rattle.keeper_core.specs.Programs.{Run, ◌>>=◌, ask, with_undo}
use Rattle.keeper_core.specs.Beside.{by_own, changes, on_own, on_store}
use Rattle.keeper_core.specs.Calls as call
use Rattle.table_laws.specs.Legality.{IsLegalStore, Keeps, KeepsLegal}
use Rattle.table_laws.proofs.EachCall.{keeps_rollback, keeps_rollback_to, write_legal}
use Rattle.table_laws.proofs.EachJoin.{keeps_guarded, keeps_then}
use Rattle.object_records.specs.declared.kept.Held.{Held}
use Rattle.object_records.specs.Kept.{held_in}
use Rattle.prepared_objects.specs.Leaving.{prepared_of}
use Rattle.session_scopes.specs.Keeping.{session_given_back}
use Rattle.session_scopes.specs.Scoping.{session_failed}
use Rattle.session_scopes.specs.SessionState.{SessionState, with_notes, with_warnings}
use Rattle.session_calls.specs.Parts.{World, roll_back_scope}
use Rattle.session_statements.specs.Run.{send_plan}
use Rattle.session_acts.specs.Flush.{flush, give_up, give_up_to, prepare, session_flushed, write_loaded, write_objects, write_prepared, write_rows, write_warned}
use Rattle.session_laws.proofs.Flushes.Kept.{IsKeptByWrites, plan_keeps}
use Rattle.session_laws.proofs.Flushes.Reading.{prepare_mapping, prepare_store}

module _ (schema : Catalog) where
  -- a legal store beside a session whose mapping has this schema
  pub record IsLegalWorld (w : World) : Type 0 where
    pub own : w.own.mapping.schema ≡ schema
    pub store : IsLegalStore schema w.store

  pub noted_keeps : {A : Type 0} (m : Store → Run Store A) → KeepsLegal schema m → Keeps IsLegalWorld (on_store with_notes m)
  unfolding on_store
  noted_keeps m legal = record { kept = λ w p. record { own = p.own; store = legal.kept w.store p.store } }

  pub changed_keeps : (f : SessionState → SessionState) → ((session : SessionState) → (f session).mapping ≡ session.mapping) → Keeps IsLegalWorld (changes f)
  unfolding changes
  changed_keeps f same = record { kept = λ w p. record { own = ap (λ m. m.schema) (same w.own) ∙ p.own; store = p.store } }

  pub chosen_keeps : {A : Type 0} (choose : SessionState → World → Run World A) → ((own : SessionState) → own.mapping.schema ≡ schema → Keeps IsLegalWorld (choose own)) → Keeps IsLegalWorld (by_own choose)
  unfolding by_own
  chosen_keeps choose one = record { kept = λ w p. (one w.own p.own).kept w p }

  writes_keep : IsKeptByWrites schema IsLegalWorld
  writes_keep statement well = noted_keeps (call.write schema statement) (write_legal schema statement well)

  module _ (rows : RowChanges) where
    asked_keeps : Keeps IsLegalWorld (on_own (ask (λ (session : SessionState). plan session.mapping.schema rows)))
    unfolding on_own ask
    asked_keeps = record { kept = λ w p. record { own = p.own; store = p.store } }

    rows_keep : (prepared : Prepared) → Keeps IsLegalWorld (write_rows prepared rows)
    unfolding write_rows
    rows_keep prepared =
        keeps_then IsLegalWorld (on_own (ask (λ session. plan session.mapping.schema rows))) (λ statements. by_own (λ session. send_plan session.mapping.schema rows statements) >>= λ keys. changes (session_flushed prepared rows keys))
        asked_keeps
        (λ w statements p answers.
        keeps_then IsLegalWorld (by_own (λ session. send_plan session.mapping.schema rows statements)) (λ keys. changes (session_flushed prepared rows keys))
        (chosen_keeps (λ session. send_plan session.mapping.schema rows statements) (λ own is. subst (λ (s : Catalog). Keeps IsLegalWorld (send_plan s rows statements)) (sym is) (plan_keeps schema rows IsLegalWorld writes_keep statements)))
        (λ v keys q told. changed_keeps (session_flushed prepared rows keys) (λ session. refl)))

    warned_keep : (prepared : Prepared) → Keeps IsLegalWorld (write_warned prepared rows)
    unfolding write_warned
    warned_keep prepared =
        keeps_then IsLegalWorld (changes (with_warnings rows.warnings)) (λ u. write_rows prepared rows) (changed_keeps (with_warnings rows.warnings) (λ session. refl)) (λ w u p answers. rows_keep prepared)

  prepare_keeps : Keeps IsLegalWorld prepare
  prepare_keeps = record { kept = λ w p. record { own = ap (λ m. m.schema) (prepare_mapping w) ∙ p.own; store = subst (IsLegalStore schema) (sym (prepare_store w)) p.store } }

  loaded_keep : Keeps IsLegalWorld write_loaded
  unfolding write_loaded write_prepared
  loaded_keep =
      chosen_keeps (λ session. write_prepared (prepared_of session.mapping session.graph))
      (λ own is.
      let prepared : Prepared = prepared_of own.mapping own.graph in
      chosen_keeps (λ session. write_warned prepared (project session.mapping session.graph prepared)) (λ now same. warned_keep (project now.mapping now.graph prepared) prepared))

  objects_keep : Keeps IsLegalWorld write_objects
  unfolding write_objects
  objects_keep = keeps_then IsLegalWorld prepare (λ u. write_loaded) prepare_keeps (λ w u p answers. loaded_keep)

  -- ---- a refusal

  pub scope_keeps : (depth : ℕ) → KeepsLegal schema (roll_back_scope depth)
  scope_keeps depth = by (depth == 1)
    where
      by : (b : Bool) → KeepsLegal schema (if b then call.rollback else call.rollback_to (depth - 1))
      by true = keeps_rollback _
      by false = keeps_rollback_to _ (depth - 1)

  give_up_keeps : Keeps IsLegalWorld give_up
  unfolding give_up
  give_up_keeps =
      chosen_keeps (λ session. on_store with_notes (roll_back_scope (length session.frames.scopes)) >>= λ u. changes session_failed)
      (λ own is.
      keeps_then IsLegalWorld (on_store with_notes (roll_back_scope (length own.frames.scopes))) (λ u. changes session_failed) (noted_keeps (roll_back_scope (length own.frames.scopes)) (scope_keeps (length own.frames.scopes)))
      (λ w u p answers. changed_keeps session_failed (λ session. refl)))

  back_keeps : (held : List Held) → Keeps IsLegalWorld (give_up_to held)
  unfolding give_up_to
  back_keeps held = keeps_then IsLegalWorld (changes (session_given_back held)) (λ u. give_up) (changed_keeps (session_given_back held) (λ session. refl)) (λ w u p answers. give_up_keeps)

  pub flush_keeps : Keeps IsLegalWorld flush
  unfolding flush
  flush_keeps =
      chosen_keeps (λ session. with_undo write_objects (give_up_to (held_in session.graph)))
      (λ own is. keeps_guarded IsLegalWorld write_objects (give_up_to (held_in own.graph)) objects_keep (back_keeps (held_in own.graph)))

-- whatever a flush answers
pub flush_legal : (world : World) → IsLegalStore world.own.mapping.schema world.store → IsLegalStore world.own.mapping.schema (flush world).after.store
flush_legal world legal = ((flush_keeps world.own.mapping.schema).kept world (record { own = refl; store = legal })).store
