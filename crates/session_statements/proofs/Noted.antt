-- A statement on rows that is sent to the store and noted by the session.
use Rattle.std.proofs.Common.{◌≡◌, List, [], ◌∷◌, length, Result, Ok, Err, refl, sym, subst}
use Rattle.base_core.specs.declared.refusal.Refusal.{Refusal}
use Rattle.base_core.specs.declared.refusal.Refusal.TheVariants.{Memory}
use Rattle.base_core.specs.declared.value.Value.{Value}
use Rattle.schema_core.specs.declared.statement.RowStmt.{RowStmt}
use Rattle.schema_core.specs.Apply.{Outcome, apply}
use Rattle.schema_core.specs.Catalog.{Catalog}
use Rattle.schema_core.specs.Tables.{Tables}
use Rattle.keeper_core.specs.declared.sent.Sent.TheVariants as sent
use Rattle.keeper_core.specs.Store.{Store, committed_of}
use Rattle.keeper_core.specs.Programs.{◌>>=◌, Run, Sends}
use Rattle.keeper_core.specs.Moment.{Moment, Runs}
use Rattle.keeper_core.specs.Beside.{moment_beside, on_store}
use Rattle.keeper_core.proofs.Lifting.{lost}
use Rattle.keeper_core.proofs.Sequence.{ran_out, then_err}
use Rattle.keeper_core.specs.Calls as call
use Rattle.keeper_core.specs.Calls.{run_of_write}
use Rattle.keeper_core.specs.Keeping.{IsWrite}
use Rattle.session_scopes.specs.SessionState.{GoesOn, IsInStep, SessionState, with_note, with_notes}
use Rattle.session_calls.specs.Calling.{IsSessionCall}
use Rattle.session_calls.specs.Parts.{World}
use Rattle.session_calls.proofs.Joining.{goes_itself, memory_early, stays_early}
use Rattle.session_calls.proofs.Noting.{stated_call}

-- the statement alone is sent
sent_once : (schema : Catalog) (statement : RowStmt) (w : Store) → (tables : Tables) × ((call.write schema statement w).events ≡ Sends (sent.Write statement) tables ∷ [])
unfolding call.write
sent_once schema statement w = by (apply schema w.tables statement)
  where
    by : (outcome : Outcome) → (tables : Tables) × ((run_of_write statement outcome w).events ≡ Sends (sent.Write statement) tables ∷ [])
    by (Ok done) = (committed_of (record { tables = done.1; scopes = w.scopes }), refl)
    by (Err violation) = (committed_of w, refl)

-- the statement ran its program, and the session noted it
pub wrote : {K : Type 0} (moment : K → Moment Store) {own now : SessionState} {old new : K} {r : Result (List (List Value)) Refusal} (schema other : Catalog) (statement : RowStmt) → other ≡ schema → now ≡ with_note (sent.Write statement) own
    → IsInStep own (moment old) → IsWrite moment other statement old r new → IsSessionCall moment (λ keys. keys) (on_store with_notes (call.write schema statement)) (own, old) r (now, new)
wrote moment {own = own} {now = now} {old = old} {new = new} {r = r} schema other statement same is in_step written =
    subst (λ (c : Catalog). IsSessionCall moment (λ keys. keys) (on_store with_notes (call.write c statement)) (own, old) r (now, new)) same
    (stated_call moment (call.write other statement) (sent.Write statement) (sent_once other statement) is in_step written)

-- memory ran out before anything was sent
pub no_room_call : {A X K : Type 0} (moment : K → Moment Store) {v : X → A} {m : World → Run World A} {own now : SessionState} {keeper : K} {e : Refusal} → e ≡ Memory → now ≡ own → IsSessionCall moment v m (own, keeper) (Err e) (now, keeper)
no_room_call {X = X} moment {own = own} {now = now} {keeper = keeper} {e = e} cause is = record {
  step = lost moment cause;
  kept = record {
    same = subst (λ (s : SessionState). GoesOn own s) (sym is) (goes_itself own);
    in_step = stays_early X e (length now.frames.scopes) (moment keeper) (memory_early e cause);
  };
}

-- memory ran out after a call that answered, and what would have gone on from it
pub ran_out_call : {A B X Y K : Type 0} (moment : K → Moment Store) {v : X → A} {v' : Y → B} {m : World → Run World A} (next : A → World → Run World B) {own now : SessionState} {old new : K} {x : X} {e : Refusal} → e ≡ Memory
    → IsSessionCall moment v m (own, old) (Ok x) (now, new) → IsSessionCall moment v' (m >>= next) (own, old) (Err e) (now, new)
ran_out_call {A = A} {Y = Y} moment {v' = v'} {m = m} next {own = own} {now = now} {old = old} {new = new} {e = e} cause p = record {
  step = subst (λ (d : Refusal). Runs (moment_beside moment) v' (m >>= next) (own, old) (Err d) (now, new)) (sym cause) (then_err {v = λ (a : A). a} next (ran_out p.step));
  kept = record { same = p.kept.same; in_step = stays_early Y e (length now.frames.scopes) (moment new) (memory_early e cause) };
}
