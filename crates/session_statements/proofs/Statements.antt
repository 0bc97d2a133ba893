-- Statements that a session sends by themselves, put together of their parts.
use Rattle.std.proofs.Common.{◌≡◌, ℕ, Bool, true, false, List, [], ◌∷◌, length, None, Some, Result, Ok, Err, IfErr, MatchBool, refl, sym, ap, ◌∙◌, subst}
use Rattle.base_core.specs.Counts.{Rose}
use Rattle.base_core.specs.declared.refusal.Refusal.{Refusal}
use Rattle.base_core.specs.declared.refusal.Refusal.TheVariants.{Memory}
use Rattle.base_core.specs.declared.value.Value.{Value}
use Rattle.schema_core.specs.Catalog.{Catalog}
use Rattle.schema_core.specs.Tables.{Tables}
use Rattle.expr_types.specs.declared.select.Bulk.{Bulk}
use Rattle.expr_types.specs.declared.select.Select.{Select}
use Rattle.sql_semantics.specs.Applied as bulks
use Rattle.sql_semantics.specs.Applied.{table_of}
use Rattle.keeper_core.specs.Calls as call
use Rattle.keeper_core.specs.Keeping.{IsBulk, IsQuery, IsStatement, IsUndone, RefusesBulk, RefusesSelect}
use Rattle.keeper_core.specs.declared.sent.Sent.{Sent}
use Rattle.keeper_core.specs.declared.sent.Sent.TheVariants as sent
use Rattle.keeper_core.specs.Alone.{IsOwn}
use Rattle.keeper_core.specs.Store.{Store}
use Rattle.keeper_core.specs.Programs.{Run, ◌>>=◌, Sends, ends_early, give}
use Rattle.keeper_core.specs.Moment.{Moment}
use Rattle.keeper_core.specs.Beside.{changes, on_store}
use Rattle.keeper_core.proofs.Lifting.{lost, spoiled}
use Rattle.keeper_core.proofs.Sequence.{then_ok}
use Rattle.session_scopes.specs.SessionState.{AreAlikeButNotes, GoesOn, IsInStep, SameObjects, SessionState, with_note, with_notes}
use Rattle.session_calls.specs.Calling.{IsSessionCall}
use Rattle.session_calls.specs.Parts.{World, checked}
use Rattle.session_calls.specs.Steps.{enter}
use Rattle.session_calls.proofs.Joining.{change_call, chosen_call, err_call, fails, goes_itself, memory_early, passes, stays_early, still_call, then_call}
use Rattle.session_calls.proofs.Noting.{IsAlwaysSent, alike_noted, stated_call}
use Rattle.session_statements.specs.Refusals.{IsRefusedByKeeper}
use Rattle.session_statements.specs.Rewriting.{session_reread}
use Rattle.session_statements.specs.Steps.{bulk, enter_bulk, rows, send_bulk, update_fault}
use Rattle.session_scopes.proofs.SessionLemmas.{goes_more, goes_on}

-- ---- what is asked first

-- the statement may be sent
pub enters_bulk : {K : Type 0} (moment : K → Moment Store) (statement : Bulk) {own mid : SessionState} {old new : K} → update_fault statement mid ≡ None
    → IsSessionCall moment (λ (u : Unit {0}). u) enter (own, old) (Ok tt) (mid, new) → IsSessionCall moment (λ (u : Unit {0}). u) (enter_bulk statement) (own, old) (Ok tt) (mid, new)
unfolding enter_bulk
enters_bulk moment statement none p = then_call (λ u. checked (update_fault statement)) p (passes moment (update_fault statement) none p.kept.in_step)

-- it may not
pub not_taken : {K : Type 0} (moment : K → Moment Store) (statement : Bulk) {own mid : SessionState} {old new : K} {e : Refusal} → update_fault statement mid ≡ Some e → IsOwn e
    → IsSessionCall moment (λ (u : Unit {0}). u) enter (own, old) (Ok tt) (mid, new) → IsSessionCall moment (λ (u : Unit {0}). u) (enter_bulk statement) (own, old) (Err e) (mid, new)
unfolding enter_bulk
not_taken moment statement fault own p =
    then_call (λ u. checked (update_fault statement)) p (fails moment (update_fault statement) {v = λ (u : Unit {0}). u} fault own p.kept.in_step)

pub enters_bulk_not : {Y K : Type 0} (moment : K → Moment Store) (statement : Bulk) {v : Y → Unit {0}} {own now : SessionState} {old new : K} {e : Refusal} → IsSessionCall moment (λ (u : Unit {0}). u) enter (own, old) (Err e) (now, new)
    → IsSessionCall moment v (enter_bulk statement) (own, old) (Err e) (now, new)
unfolding enter_bulk
enters_bulk_not moment statement p = err_call (λ u. checked (update_fault statement)) p

-- ---- the statements are sent, refused or not

query_sent : (schema : Catalog) (select : Select) → IsAlwaysSent (sent.Query select) (call.query schema select)
unfolding call.query
query_sent schema select = λ w. (_, refl)

bulk_by : (statement : Bulk) (outcome : bulks.Outcome) (w : Store) → (tables : Tables) × ((call.run_of_bulk statement outcome w).events ≡ Sends (sent.Bulk statement) tables ∷ [])
bulk_by statement (Ok done) w = (_, refl)
bulk_by statement (Err refusal) w = (_, refl)

bulk_sent : (schema : Catalog) (statement : Bulk) → IsAlwaysSent (sent.Bulk statement) (call.bulk schema statement)
unfolding call.bulk
bulk_sent schema statement = λ w. bulk_by statement (bulks.bulk_outcome schema w.tables statement) w

-- there was no memory for the note
pub no_room_call : {A X K : Type 0} (moment : K → Moment Store) (m : World → Run World A) {v : X → A} {own now : SessionState} {keeper : K} → now ≡ own → IsSessionCall moment v m (own, keeper) (Err Memory) (now, keeper)
no_room_call {X = X} moment m {own = own} {now = now} {keeper = keeper} is = record {
  step = spoiled moment;
  kept = record {
    same = subst (λ (s : SessionState). GoesOn own s) (sym is) (goes_itself own);
    in_step = stays_early X Memory (length now.frames.scopes) (moment keeper) refl;
  };
}

-- ---- rows are asked for

pub asks : {K : Type 0} (moment : K → Moment Store) (schema : Catalog) (select : Select) {own now : SessionState} {old new : K} {r : Result (List (List Value)) Refusal} → schema ≡ own.mapping.schema → now ≡ with_note (sent.Query select) own
    → IsInStep own (moment old) → IsQuery moment schema select old r new → IsSessionCall moment (λ (x : List (List Value)). x) (rows select) (own, old) r (now, new)
unfolding rows
asks moment schema select {own = own} {now = now} {old = old} {new = new} {r = r} is noted in_step p =
    chosen_call moment (λ session. on_store with_notes (call.query session.mapping.schema select))
    (subst (λ (c : Catalog). IsSessionCall moment (λ (x : List (List Value)). x) (on_store with_notes (call.query c select)) (own, old) r (now, new)) is
    (stated_call moment (call.query schema select) (sent.Query select) (query_sent schema select) noted in_step p))

-- ---- a bulk statement is sent

pub sends_bulk : {K : Type 0} (moment : K → Moment Store) (schema : Catalog) (statement : Bulk) {own now : SessionState} {old new : K} {r : Result ℕ Refusal} → schema ≡ own.mapping.schema → now ≡ with_note (sent.Bulk statement) own
    → IsInStep own (moment old) → IsBulk moment schema statement old r new → IsSessionCall moment (λ (x : ℕ). x) (send_bulk statement) (own, old) r (now, new)
unfolding send_bulk
sends_bulk moment schema statement {own = own} {now = now} {old = old} {new = new} {r = r} is noted in_step p =
    chosen_call moment (λ session. on_store with_notes (call.bulk session.mapping.schema statement))
    (subst (λ (c : Catalog). IsSessionCall moment (λ (x : ℕ). x) (on_store with_notes (call.bulk c statement)) (own, old) r (now, new)) is
    (stated_call moment (call.bulk schema statement) (sent.Bulk statement) (bulk_sent schema statement) noted in_step p))

-- and the objects of its table are to be read again
pub bulk_done : {K : Type 0} (moment : K → Moment Store) (statement : Bulk) (count : ℕ) {own mid now : SessionState} {old new : K} → IsSessionCall moment (λ (x : ℕ). x) (send_bulk statement) (own, old) (Ok count) (mid, new)
    → now ≡ session_reread (table_of statement) mid → SameObjects mid now → now.frames.scopes ≡ mid.frames.scopes → IsSessionCall moment (λ (x : ℕ). x) (bulk statement) (own, old) (Ok count) (now, new)
unfolding bulk
bulk_done moment statement count {mid = mid} {now = now} {new = new} p is same scopes =
    let in_step : IsInStep now (moment new) = (p.kept.in_step.0, p.kept.in_step.1 ∙ ap length (sym scopes)) in
    then_call (λ (x : ℕ). changes (session_reread (table_of statement)) >>= λ u. give x) p
    (then_call (λ u. give count) (change_call moment (session_reread (table_of statement)) {r = Ok tt} is tt same in_step) (still_call moment {v = λ (x : ℕ). x} refl in_step))

-- memory ran out then
pub bulk_lost : {Y K : Type 0} (moment : K → Moment Store) (statement : Bulk) (count : ℕ) {v : Y → ℕ} {own mid now : SessionState} {old new : K} {e : Refusal} → IsSessionCall moment (λ (x : ℕ). x) (send_bulk statement) (own, old) (Ok count) (mid, new)
    → e ≡ Memory → SameObjects mid now → IsSessionCall moment v (bulk statement) (own, old) (Err e) (now, new)
unfolding bulk
bulk_lost {Y = Y} moment statement count {v = v} {now = now} {new = new} {e = e} p cause same = record {
  step = then_ok {v' = v} (λ (x : ℕ). changes (session_reread (table_of statement)) >>= λ u. give x) p.step (lost moment cause);
  kept = record {
    same = goes_more p.kept.same (goes_on same);
    in_step = stays_early Y e (length now.frames.scopes) (moment new) (memory_early e cause);
  };
}

-- it was refused
pub bulk_refused : {Y K : Type 0} (moment : K → Moment Store) (statement : Bulk) {v : Y → ℕ} {own now : SessionState} {old new : K} {e : Refusal} → IsSessionCall moment (λ (x : ℕ). x) (send_bulk statement) (own, old) (Err e) (now, new)
    → IsSessionCall moment v (bulk statement) (own, old) (Err e) (now, new)
unfolding bulk
bulk_refused moment statement p = err_call (λ (x : ℕ). changes (session_reread (table_of statement)) >>= λ u. give x) p

-- ---- why a statement was refused

-- the keeper refused it, and all but the notes is as it was
kept_refusal : {A K : Type 0} (moment : K → Moment Store) {m : Store → Run Store A} (statement : Sent) {MayRefuse : Refusal → Type 0} (own now : SessionState) {old new : K} (r : Result A Refusal) → IsStatement moment m statement MayRefuse old r new → AreAlikeButNotes own now
    → IfErr r (λ e. IsRefusedByKeeper statement MayRefuse own (moment old) e now (moment new))
kept_refusal moment statement own now (Ok x) p alike = tt
kept_refusal moment statement {MayRefuse = MayRefuse} own now {old = old} {new = new} (Err e) p alike = by (ends_early e) p.left
  where
    Last : Type 0
    Last = (moment new).last ≡ Some (record { statement = statement; refusal = e })

    by : (b : Bool) → MatchBool b (IsUndone (moment old) (moment new)) (Rose (moment old).refusals (moment new).refusals × Last)
        → MatchBool b (Unit {0}) (MayRefuse e × Rose (moment old).refusals (moment new).refusals × Last × AreAlikeButNotes own now)
    by true left = tt
    by false left = (p.refuses, left.0, left.1, alike)

pub query_refused : {K : Type 0} (moment : K → Moment Store) (schema : Catalog) (select : Select) (own now : SessionState) {old new : K} {r : Result (List (List Value)) Refusal} → schema ≡ own.mapping.schema → now ≡ with_note (sent.Query select) own
    → IsQuery moment schema select old r new → IfErr r (λ e. IsRefusedByKeeper (sent.Query select) (RefusesSelect own.mapping.schema select) own (moment old) e now (moment new))
query_refused moment schema select own now {old = old} {new = new} {r = r} is noted p =
    subst (λ (s : Catalog). IfErr r (λ e. IsRefusedByKeeper (sent.Query select) (RefusesSelect s select) own (moment old) e now (moment new))) is
    (kept_refusal moment (sent.Query select) own now r p (alike_noted own now (sent.Query select) noted))

pub sent_refused : {K : Type 0} (moment : K → Moment Store) (schema : Catalog) (statement : Bulk) (own now : SessionState) {old new : K} {r : Result ℕ Refusal} → schema ≡ own.mapping.schema → now ≡ with_note (sent.Bulk statement) own
    → IsBulk moment schema statement old r new → IfErr r (λ e. IsRefusedByKeeper (sent.Bulk statement) (RefusesBulk own.mapping.schema statement) own (moment old) e now (moment new))
sent_refused moment schema statement own now {old = old} {new = new} {r = r} is noted p =
    subst (λ (s : Catalog). IfErr r (λ e. IsRefusedByKeeper (sent.Bulk statement) (RefusesBulk s statement) own (moment old) e now (moment new))) is
    (kept_refusal moment (sent.Bulk statement) own now r p (alike_noted own now (sent.Bulk statement) noted))

-- memory ran out then
pub lost_then : {W : Type 0} (statement : Sent) (MayRefuse : Refusal → Type 0) (own now : SessionState) (was late : Moment W) (e : Refusal) → e ≡ Memory → IsRefusedByKeeper statement MayRefuse own was e now late
lost_then statement MayRefuse own now was late e is = subst (λ (d : Refusal). IsRefusedByKeeper statement MayRefuse own was d now late) (sym is) tt
