-- The flush, put together of its parts.
use Rattle.std.proofs.Common.{◌≡◌, ℕ, ◌-◌, List, length, Result, Ok, Err, IfErr, MatchBool, OnOk, sym, ap, ◌∙◌, subst, arith}
use Rattle.base_core.specs.Answers.{is_memory}
use Rattle.base_core.specs.declared.refusal.Refusal.{Refusal}
use Rattle.base_core.specs.declared.refusal.Refusal.TheVariants.{Memory}
use Rattle.base_core.specs.declared.value.Value.{Value}
use Rattle.schema_core.specs.declared.changes.Planned.{Planned}
use Rattle.schema_core.specs.declared.changes.RowChanges.{RowChanges}
use Rattle.flush_plan.specs.Planning.{plan}
use Rattle.object_rows.specs.declared.prepared.Prepared.{Prepared}
use Rattle.row_project.specs.Changes.{project}
use Rattle.keeper_core.specs.Store.{Store}
use Rattle.keeper_core.specs.Programs.{◌>>=◌, Run}
use Rattle.keeper_core.specs.Moment.{Moment}
use Rattle.keeper_core.specs.Beside.{by_own, changes, on_store}
use Rattle.keeper_core.proofs.Lifting.{lost}
use Rattle.session_parts.specs.Depths.{HasDepth}
use Rattle.session_scopes.specs.Scoping.{session_failed}
use Rattle.session_scopes.specs.SessionState.{AreAlikeButNotes, IsInStep, SameObjects, SessionState, with_notes, with_warnings}
use Rattle.session_calls.specs.Calling.{IsNotedCall, IsSessionCall}
use Rattle.session_calls.specs.Parts.{World, roll_back_scope}
use Rattle.session_calls.proofs.Joining.{change_call, chosen_call, err_call, goes_alike, memory_early, noted_err, noted_then, same_alike, stays_early, then_call}
use Rattle.session_statements.specs.Run.{send_plan}
use Rattle.prepared_objects.specs.Leaving.{prepared_of}
use Rattle.session_acts.specs.Flush.{give_up, session_flushed, write_loaded, write_prepared, write_rows, write_warned}
use Rattle.session_acts.proofs.Planned.{not_planned, planned}

-- the keeper in step with a session that kept its scopes
still_deep : {K : Type 0} (moment : K → Moment Store) (r : Result (Unit {0}) Refusal) (own now : SessionState) (keeper : K) → IsInStep own (moment keeper) → now.frames.scopes ≡ own.frames.scopes → OnOk r (HasDepth (length now.frames.scopes) (moment keeper))
still_deep moment (Ok u) own now keeper in_step same = (in_step.0, in_step.1 ∙ ap length (sym same))
still_deep moment (Err e) own now keeper in_step same = tt

module _ {K : Type 0} (moment : K → Moment Store) (prepared : Prepared) (rows : RowChanges) where
  -- the plan was sent, and the objects changed
  pub rows_written : {own mid now : SessionState} {old new : K} {r : Result (Unit {0}) Refusal} (statements : List Planned) (keys : List (List Value)) → plan own.mapping.schema rows ≡ Ok statements → IsInStep own (moment old)
      → IsSessionCall moment (λ (ks : List (List Value)). ks) (send_plan own.mapping.schema rows statements) (own, old) (Ok keys) (mid, new)
      → OnOk r (now ≡ session_flushed prepared rows keys mid) → IfErr r (λ e. e ≡ Memory) → SameObjects mid now → now.frames.scopes ≡ mid.frames.scopes
      → IsSessionCall moment (λ (u : Unit {0}). u) (write_rows prepared rows) (own, old) r (now, new)
  unfolding write_rows
  rows_written {own = own} {mid = mid} {now = now} {new = new} {r = r} statements keys is in_step sent flushed cause same scopes =
      then_call (λ ps. by_own (λ session. send_plan session.mapping.schema rows ps) >>= λ ks. changes (session_flushed prepared rows ks)) (planned moment rows statements is in_step)
      (then_call (λ ks. changes (session_flushed prepared rows ks)) (chosen_call moment (λ session. send_plan session.mapping.schema rows statements) sent)
      (change_call moment (session_flushed prepared rows keys) flushed cause same (still_deep moment r mid now new sent.kept.in_step scopes)))

  -- the run of the plan was refused
  pub rows_refused : {own now : SessionState} {old new : K} {e : Refusal} (statements : List Planned) → plan own.mapping.schema rows ≡ Ok statements → IsInStep own (moment old)
      → IsSessionCall moment (λ (ks : List (List Value)). ks) (send_plan own.mapping.schema rows statements) (own, old) (Err e) (now, new)
      → IsSessionCall moment (λ (u : Unit {0}). u) (write_rows prepared rows) (own, old) (Err e) (now, new)
  unfolding write_rows
  rows_refused statements is in_step sent =
      then_call (λ ps. by_own (λ session. send_plan session.mapping.schema rows ps) >>= λ ks. changes (session_flushed prepared rows ks)) (planned moment rows statements is in_step)
      (err_call {v = λ (ks : List (List Value)). ks} (λ ks. changes (session_flushed prepared rows ks)) (chosen_call moment (λ session. send_plan session.mapping.schema rows statements) sent))

  -- there is no plan
  pub rows_unplanned : {own : SessionState} {keeper : K} {e : Refusal} → MatchBool (is_memory e) (Unit {0}) (plan own.mapping.schema rows ≡ Err e) → IsInStep own (moment keeper) → IsSessionCall moment (λ (u : Unit {0}). u) (write_rows prepared rows) (own, keeper) (Err e) (own, keeper)
  unfolding write_rows
  rows_unplanned refuses in_step =
      err_call {v = λ (ps : List Planned). ps} (λ ps. by_own (λ session. send_plan session.mapping.schema rows ps) >>= λ ks. changes (session_flushed prepared rows ks)) (not_planned moment (λ (ps : List Planned). ps) rows refuses in_step)

  -- the warnings were noted
  pub rows_warned : {own mid now : SessionState} {old new : K} {r : Result (Unit {0}) Refusal} → IsInStep own (moment old) → mid ≡ with_warnings rows.warnings own → AreAlikeButNotes own mid
      → IsSessionCall moment (λ (u : Unit {0}). u) (write_rows prepared rows) (mid, old) r (now, new) → IsSessionCall moment (λ (u : Unit {0}). u) (write_warned prepared rows) (own, old) r (now, new)
  unfolding write_warned
  rows_warned {own = own} {mid = mid} in_step warned alike written =
      then_call (λ u. write_rows prepared rows)
      (change_call moment (with_warnings rows.warnings) {r = Ok tt} warned tt (same_alike own mid alike) (in_step.0, in_step.1 ∙ sym (ap (λ (s : SessionState). length s.frames.scopes) alike)))
      written

  -- what is decided of the objects and what they change is known
  pub loaded_written : {own now : SessionState} {old new : K} {r : Result (Unit {0}) Refusal} → prepared ≡ prepared_of own.mapping own.graph → rows ≡ project own.mapping own.graph prepared
      → IsSessionCall moment (λ (u : Unit {0}). u) (write_warned prepared rows) (own, old) r (now, new) → IsSessionCall moment (λ (u : Unit {0}). u) write_loaded (own, old) r (now, new)
  unfolding write_loaded write_prepared
  loaded_written {own = own} {now = now} {old = old} {new = new} {r = r} ready are written =
      let Written : Prepared → RowChanges → Type 0 = λ p rs. IsSessionCall moment (λ (u : Unit {0}). u) (write_warned p rs) (own, old) r (now, new) in
      chosen_call moment (λ session. write_prepared (prepared_of session.mapping session.graph))
      (chosen_call moment (λ session. write_warned (prepared_of own.mapping own.graph) (project session.mapping session.graph (prepared_of own.mapping own.graph)))
      (subst (λ (p : Prepared). Written p (project own.mapping own.graph p)) ready (subst (Written prepared) are written)))

-- the innermost scope was rolled back
pub gave_up : {K : Type 0} (moment : K → Moment Store) (depth : ℕ) {own mid now : SessionState} {old new : K} → depth ≡ length own.frames.scopes → IsNotedCall moment (roll_back_scope depth) (depth - 1) (own, old) (Ok tt) (mid, new)
    → now ≡ session_failed mid → SameObjects mid now → length now.frames.scopes ≡ length mid.frames.scopes - 1 → IsSessionCall moment (λ (u : Unit {0}). u) give_up (own, old) (Ok tt) (now, new)
unfolding give_up
gave_up moment depth {own = own} {mid = mid} {now = now} {old = old} {new = new} deep p is same fewer =
    let long : length mid.frames.scopes ≡ length own.frames.scopes = ap (λ (s : SessionState). length s.frames.scopes) p.alike in
    chosen_call moment (λ session. on_store with_notes (roll_back_scope (length session.frames.scopes)) >>= λ u. changes session_failed)
    (subst (λ (n : ℕ). IsSessionCall moment (λ (u : Unit {0}). u) (on_store with_notes (roll_back_scope n) >>= λ u. changes session_failed) (own, old) (Ok tt) (now, new)) deep
    (noted_then moment session_failed (depth - 1) {r = Ok tt} p is tt same (omega (arith, long, deep, fewer))))

-- the store ended it early
pub gave_up_not : {K : Type 0} (moment : K → Moment Store) (depth : ℕ) {own mid : SessionState} {old new : K} {e : Refusal} → depth ≡ length own.frames.scopes → IsNotedCall moment (roll_back_scope depth) (depth - 1) (own, old) (Err e) (mid, new)
    → IsSessionCall moment (λ (u : Unit {0}). u) give_up (own, old) (Err e) (mid, new)
unfolding give_up
gave_up_not moment depth {own = own} {mid = mid} {old = old} {new = new} {e = e} deep p =
    chosen_call moment (λ session. on_store with_notes (roll_back_scope (length session.frames.scopes)) >>= λ u. changes session_failed)
    (subst (λ (n : ℕ). IsSessionCall moment (λ (u : Unit {0}). u) (on_store with_notes (roll_back_scope n) >>= λ u. changes session_failed) (own, old) (Err e) (mid, new)) deep
    (noted_err moment (λ u. changes session_failed) (depth - 1) p))

-- the keeper in step with a session of which only the notes changed
pub alike_in_step : {W : Type 0} (moment : Moment W) (own now : SessionState) → AreAlikeButNotes own now → IsInStep own moment → IsInStep now moment
alike_in_step moment own now alike in_step = (in_step.0, in_step.1 ∙ sym (ap (λ (s : SessionState). length s.frames.scopes) alike))

-- memory ran out, and only the notes have changed so far
pub no_room_alike : {A X K : Type 0} (moment : K → Moment Store) {v : X → A} {m : World → Run World A} {own now : SessionState} {keeper : K} {e : Refusal} → e ≡ Memory → AreAlikeButNotes own now
    → IsSessionCall moment v m (own, keeper) (Err e) (now, keeper)
no_room_alike {X = X} moment {own = own} {now = now} {keeper = keeper} {e = e} cause alike = record {
  step = lost moment cause;
  kept = record {
    same = goes_alike own now alike;
    in_step = stays_early X e (length now.frames.scopes) (moment keeper) (memory_early e cause);
  };
}
