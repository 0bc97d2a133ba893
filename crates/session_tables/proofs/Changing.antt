-- A table that is made or dropped, and what is noted of it.
use Rattle.std.proofs.Common.{◌≡◌, ℕ, ◌<◌, ◌≤◌, Bool, true, false, cond, List, [], ◌∷◌, length, Option, None, Some, Result, Ok, Err, IfErr, OnOk, refl, sym, ap, ◌∙◌, subst, append-nil, arith}
use Rattle.std.proofs.lemmas.Bool.Decides.{nat_tests}
use Rattle.std.specs.Prelude.{OnErr, nat_lt}
use Rattle.base_core.specs.declared.ids.TableId.{TableId}
use Rattle.base_core.specs.declared.refusal.Refusal.{Refusal}
use Rattle.base_core.specs.declared.refusal.Refusal.TheVariants.{InvalidRequestError, Memory}
use Rattle.base_core.specs.declared.refusal.RequestKind.TheVariants.{InTransaction}
use Rattle.schema_core.specs.Tables.{Tables, is_created}
use Rattle.keeper_core.specs.declared.sent.Sent.{Sent}
use Rattle.keeper_core.specs.Store.{Store, with_empty_table, without_table}
use Rattle.keeper_core.specs.Programs.{Event, Run, Sends, each, give, quiet}
use Rattle.keeper_core.specs.Moment.{AsTold, Moment, Ran, Runs, Told, parts}
use Rattle.keeper_core.specs.Beside.{Beside, by_own, moment_beside, told_beside}
use Rattle.keeper_core.proofs.Lifting.{spoiled}
use Rattle.keeper_core.proofs.Sequence.{done, ran_out, then_err, then_ok}
use Rattle.keeper_core.specs.Calls as call
use Rattle.keeper_core.specs.Keeping.{IsCall, IsCoherent}
use Rattle.keeper_core.specs.declared.notes.Note.{Note}
use Rattle.session_parts.specs.Depths.{HasDepth}
use Rattle.session_scopes.specs.SessionState.{AreAlikeButNotes, IsInStep, SessionState, depth_of, with_note, with_notes}
use Rattle.session_calls.specs.Calling.{IsSessionCall}
use Rattle.session_calls.specs.Parts.{fault_if}
use Rattle.session_calls.proofs.Joining.{chosen_call, err_call, fails, goes_alike, goes_itself, passes, stays_early, stays_there, then_call}
use Rattle.session_calls.proofs.Noting.{alike_noted, note_of, noted, stopped}
use Rattle.session_tables.specs.declared.tables.TableChange.{TableChange}
use Rattle.session_tables.specs.declared.tables.TableChange.TheVariants.{Create, Drop}
use Rattle.session_tables.specs.Steps.{change_all, change_one, change_in_store, order_for, statement_of, transaction_fault}

-- ---- what is sent

-- where the table did not change nothing was sent
abbrev IsSilent : Run Store Bool → Type 0
IsSilent run = run.answer ≡ Ok false → run.events ≡ []

-- where it did, this statement alone
abbrev IsSending : Sent → Run Store Bool → Type 0
IsSending statement run = run.answer ≡ Ok true → (tables : Tables) × (run.events ≡ Sends statement tables ∷ [])

made_silent : (b : Bool) (table : TableId) (w : Store) → IsSilent (cond b (quiet (Ok false) w) (call.sends (statement_of Create table) (record { tables = with_empty_table w.tables table; scopes = w.scopes }) (Ok true)))
made_silent true table w is = refl
made_silent false table w is = absurd cc

made_sends : (b : Bool) (table : TableId) (w : Store) → IsSending (statement_of Create table) (cond b (quiet (Ok false) w) (call.sends (statement_of Create table) (record { tables = with_empty_table w.tables table; scopes = w.scopes }) (Ok true)))
made_sends true table w is = absurd cc
made_sends false table w is = (_, refl)

gone_silent : (b : Bool) (table : TableId) (w : Store) → IsSilent (cond b (call.sends (statement_of Drop table) (record { tables = without_table w.tables table; scopes = w.scopes }) (Ok true)) (quiet (Ok false) w))
gone_silent true table w is = absurd cc
gone_silent false table w is = refl

gone_sends : (b : Bool) (table : TableId) (w : Store) → IsSending (statement_of Drop table) (cond b (call.sends (statement_of Drop table) (record { tables = without_table w.tables table; scopes = w.scopes }) (Ok true)) (quiet (Ok false) w))
gone_sends true table w is = (_, refl)
gone_sends false table w is = absurd cc

silent : (change : TableChange) (table : TableId) (w : Store) → IsSilent (change_in_store change table w)
unfolding call.create call.drop_table
silent Create table w = made_silent (is_created w.tables table) table w
silent Drop table w = gone_silent (is_created w.tables table) table w

sending : (change : TableChange) (table : TableId) (w : Store) → IsSending (statement_of change table) (change_in_store change table w)
unfolding call.create call.drop_table
sending Create table w = made_sends (is_created w.tables table) table w
sending Drop table w = gone_sends (is_created w.tables table) table w

-- ---- what is noted

nothing_noted : (own : SessionState) (events : List Event) → events ≡ [] → own ≡ with_notes events own
nothing_noted own events is = ap (λ (notes : List Note). record own { notes = notes }) (sym (append-nil own.notes)) ∙ ap (λ (es : List Event). with_notes es own) (sym is)

alike_itself : (own : SessionState) → AreAlikeButNotes own own
alike_itself own = refl

pub alike_more : (old mid new : SessionState) → AreAlikeButNotes old mid → AreAlikeButNotes mid new → AreAlikeButNotes old new
alike_more old mid new p q = q ∙ ap (λ (s : SessionState). record s { notes = new.notes }) p

-- no scope is in progress in the keeper, as in the session
deep_none : {K : Type 0} (moment : K → Moment Store) (change : TableChange) (table : TableId) (own : SessionState) (old new : K) (r : Result Bool Refusal) → IsInStep own (moment old) → own.frames.scopes ≡ [] → (moment new).depth ≡ 0
    → Runs moment (λ x. x) (change_in_store change table) old r new → HasDepth (length own.frames.scopes) (moment new)
deep_none moment change table own old new r in_step none deep step = ((parts step).keeps.attached ∙ in_step.0, deep ∙ sym (ap length none))

-- ---- one table

-- the store ended it early
pub change_ended : {Y K : Type 0} (moment : K → Moment Store) (change : TableChange) (table : TableId) {v : Y → Unit {0}} {own : SessionState} {old new : K} {e : Refusal} → IsCall moment (change_in_store change table) 0 old (Err e) new
    → IsSessionCall moment v (change_one change table tt) (own, old) (Err e) (own, new)
unfolding change_one
change_ended {Y = Y} moment change table {own = own} {new = new} {e = e} p = record {
  step = then_err (λ _. give tt) (stopped {own = own} {now = own} p.stops p.step);
  kept = record { same = goes_itself own; in_step = stays_early Y e (length own.frames.scopes) (moment new) p.stops };
}

-- the table did not change
pub change_none : {K : Type 0} (moment : K → Moment Store) (change : TableChange) (table : TableId) {own : SessionState} {old new : K} → IsCoherent (moment old) → IsInStep own (moment old) → own.frames.scopes ≡ [] → IsCall moment (change_in_store change table) 0 old (Ok false) new
    → IsSessionCall moment (λ (u : Unit {0}). u) (change_one change table tt) (own, old) (Ok tt) (own, new)
unfolding change_one
change_none moment change table {own = own} {old = old} {new = new} coherent in_step none p = record {
  step = then_ok (λ _. give tt) (noted moment (change_in_store change table) {own = own} {now = own} coherent (λ w deep answer. nothing_noted own (change_in_store change table w).events (silent change table w answer)) p.step) (done {v = λ (u : Unit {0}). u} refl);
  kept = record { same = goes_itself own; in_step = deep_none moment change table own old new (Ok false) in_step none p.depth p.step };
}

-- the table change_in_store, and the session has it noted
noted_change : {K : Type 0} (moment : K → Moment Store) (change : TableChange) (table : TableId) {own : SessionState} {old new : K} → IsCoherent (moment old) → IsCall moment (change_in_store change table) 0 old (Ok true) new
    → Runs (moment_beside moment) (λ (u : Unit {0}). u) (change_one change table tt) (own, old) (Ok tt) (with_note (statement_of change table) own, new)
unfolding change_one
noted_change moment change table {own = own} {old = old} {new = new} coherent p =
    then_ok (λ _. give tt)
    (noted moment (change_in_store change table) {own = own} {now = with_note (statement_of change table) own} coherent
    (λ w deep answer. let sent = sending change table w answer in note_of own (statement_of change table) sent.0 (change_in_store change table w).events sent.1) p.step)
    (done {v = λ (u : Unit {0}). u} refl)

told_lost : {S A X : Type 0} (v : X → A) (m : Beside S → Run (Beside S) A) (own mid now : S) (old new : Option (Told Store)) → AsTold v m (told_beside own old) (Err Memory) (told_beside mid new) → AsTold v m (told_beside own old) (Err Memory) (told_beside now new)
told_lost v m own mid now None new p = tt
told_lost v m own mid now (Some t) None p = absurd p
told_lost v m own mid now (Some t) (Some n) p = record { prefix = p.prefix; rest = p.rest; events = p.events; log = p.log }

-- memory ran out, whatever the session is then
lost_own : {S A X K : Type 0} (moment : K → Moment Store) {v : X → A} {m : Beside S → Run (Beside S) A} {own mid now : S} {old new : K} → Runs (moment_beside moment) v m (own, old) (Err Memory) (mid, new) → Runs (moment_beside moment) v m (own, old) (Err Memory) (now, new)
unfolding moment_beside
lost_own moment {v = v} {m = m} {own = own} {mid = mid} {now = now} {old = old} {new = new} (Ran p) = Ran (record { told = told_lost v m own mid now (moment old).told (moment new).told p.told; keeps = p.keeps })

change_step : {K : Type 0} (moment : K → Moment Store) (change : TableChange) (table : TableId) (own now : SessionState) (old new : K) (r : Result (Unit {0}) Refusal) → IsCoherent (moment old) → IsCall moment (change_in_store change table) 0 old (Ok true) new
    → OnOk r (now ≡ with_note (statement_of change table) own) → IfErr r (λ e. e ≡ Memory) → Runs (moment_beside moment) (λ (u : Unit {0}). u) (change_one change table tt) (own, old) r (now, new)
change_step moment change table own now old new (Ok u) coherent p is cause =
    subst (λ (s : SessionState). Runs (moment_beside moment) (λ (u : Unit {0}). u) (change_one change table tt) (own, old) (Ok tt) (s, new)) (sym is) (noted_change moment change table coherent p)
change_step moment change table own now old new (Err e) coherent p is cause =
    subst (λ (d : Refusal). Runs (moment_beside moment) (λ (u : Unit {0}). u) (change_one change table tt) (own, old) (Err d) (now, new)) (sym cause)
    (lost_own moment (ran_out (noted_change moment change table {own = own} coherent p)))

-- what the session is then
pub alike_still : (own now : SessionState) → now ≡ own → AreAlikeButNotes own now
alike_still own now is = is ∙ ap (λ (s : SessionState). record own { notes = s.notes }) (sym is)

alike_then : (own now : SessionState) (statement : Sent) (r : Result (Unit {0}) Refusal) → OnOk r (now ≡ with_note statement own) → OnErr r (now ≡ own) → AreAlikeButNotes own now
alike_then own now statement (Ok u) is none = alike_noted own now statement is
alike_then own now statement (Err e) none is = alike_still own now is

-- the table change_in_store, and the session noted it, or there was no memory for the note
pub change_sent : {K : Type 0} (moment : K → Moment Store) (change : TableChange) (table : TableId) {own now : SessionState} {old new : K} {r : Result (Unit {0}) Refusal} → IsCoherent (moment old) → IsInStep own (moment old) → own.frames.scopes ≡ []
    → IsCall moment (change_in_store change table) 0 old (Ok true) new → OnOk r (now ≡ with_note (statement_of change table) own) → OnErr r (now ≡ own) → IfErr r (λ e. e ≡ Memory)
    → IsSessionCall moment (λ (u : Unit {0}). u) (change_one change table tt) (own, old) r (now, new)
change_sent moment change table {own = own} {now = now} {old = old} {new = new} {r = r} coherent in_step none p is err cause =
    let alike : AreAlikeButNotes own now = alike_then own now (statement_of change table) r is err in
    let deep : HasDepth (length own.frames.scopes) (moment new) = deep_none moment change table own old new (Ok true) in_step none p.depth p.step in
    record {
      step = change_step moment change table own now old new r coherent p is cause;
      kept = record {
        same = goes_alike own now alike;
        in_step = stays_there r (length now.frames.scopes) (moment new) (deep.0, deep.1 ∙ sym (ap (λ (s : SessionState). length s.frames.scopes) alike));
      };
    }

-- ---- all tables

none_open : (n : ℕ) → n ≤ 0 → nat_lt 0 n ≡ false
none_open n less = grind (arith, nat_tests)

some_open : (n : ℕ) → 0 < n → nat_lt 0 n ≡ true
some_open n less = grind (arith, nat_tests)

closed_depth : (session : SessionState) (depth : ℕ) → depth ≡ depth_of session → depth ≤ 0 → transaction_fault session ≡ None
closed_depth session depth is less = ap (λ (n : ℕ). fault_if (nat_lt 0 n) (InvalidRequestError InTransaction)) (sym is) ∙ ap (λ (b : Bool). fault_if b (InvalidRequestError InTransaction)) (none_open depth less)

pub open_depth : (session : SessionState) (depth : ℕ) → depth ≡ depth_of session → 0 < depth → transaction_fault session ≡ Some (InvalidRequestError InTransaction)
open_depth session depth is less = ap (λ (n : ℕ). fault_if (nat_lt 0 n) (InvalidRequestError InTransaction)) (sym is) ∙ ap (λ (b : Bool). fault_if b (InvalidRequestError InTransaction)) (some_open depth less)

-- in a transaction
pub change_refused : {K : Type 0} (moment : K → Moment Store) (change : TableChange) (depth : ℕ) {own : SessionState} {keeper : K} → depth ≡ depth_of own → 0 < depth → IsInStep own (moment keeper)
    → IsSessionCall moment (λ (u : Unit {0}). u) (change_all change) (own, keeper) (Err (InvalidRequestError InTransaction)) (own, keeper)
unfolding change_all
change_refused moment change depth {own = own} is less in_step =
    err_call (λ u. by_own (λ session. each (change_one change) tt (order_for change session.mapping.schema))) (fails moment transaction_fault {v = λ (u : Unit {0}). u} (open_depth own depth is less) (refl, refl) in_step)

-- outside
pub all_change : {K : Type 0} (moment : K → Moment Store) (change : TableChange) (depth : ℕ) {own now : SessionState} {old new : K} {r : Result (Unit {0}) Refusal} {order : List TableId} → depth ≡ depth_of own → depth ≤ 0 → IsInStep own (moment old)
    → order ≡ order_for change own.mapping.schema → IsSessionCall moment (λ u. u) (each (change_one change) tt order) (own, old) r (now, new) → IsSessionCall moment (λ u. u) (change_all change) (own, old) r (now, new)
unfolding change_all
all_change moment change depth {own = own} {now = now} {old = old} {new = new} {r = r} is less in_step order_is p =
    then_call (λ u. by_own (λ session. each (change_one change) tt (order_for change session.mapping.schema))) (passes moment transaction_fault (closed_depth own depth is less) in_step)
    (chosen_call moment (λ session. each (change_one change) tt (order_for change session.mapping.schema))
    (subst (λ (tables : List TableId). IsSessionCall moment (λ u. u) (each (change_one change) tt tables) (own, old) r (now, new)) order_is p))

-- there was no memory for the order
pub no_order : {X K : Type 0} (moment : K → Moment Store) (change : TableChange) {v : X → Unit {0}} {own : SessionState} {keeper : K} → IsInStep own (moment keeper) → IsSessionCall moment v (change_all change) (own, keeper) (Err Memory) (own, keeper)
no_order moment change {own = own} in_step = record { step = spoiled moment; kept = record { same = goes_itself own; in_step = λ early. in_step } }
