-- Calls of the store that the session notes.
use Rattle.std.proofs.Common.{◌≡◌, ℕ, Bool, true, false, cond, List, [], ◌∷◌, length, Option, None, Some, IfSome, Result, Ok, Err, MatchBool, refl, sym, ap, ◌∙◌, subst}
use Rattle.base_core.specs.declared.refusal.Refusal.{Refusal}
use Rattle.base_core.specs.declared.refusal.Refusal.TheVariants.{Memory}
use Rattle.schema_core.specs.Tables.{Tables}
use Rattle.keeper_core.specs.declared.sent.Sent.{Sent}
use Rattle.keeper_core.specs.Store.{Store}
use Rattle.keeper_core.specs.Programs.{Event, Run, Sends, ends_early}
use Rattle.keeper_core.specs.Moment.{AsTold, Moment, Ran, Runs, Told, parts}
use Rattle.keeper_core.specs.Beside.{IsNotedAs, Noted, moment_beside, on_store, told_beside}
use Rattle.keeper_core.proofs.Lifting.{on_keeper_noted, spoiled}
use Rattle.keeper_core.specs.Keeping.{IsCall, IsCoherent, IsCoherentTold, IsStatement, depth_left}
use Rattle.session_parts.specs.Depths.{HasDepth, StaysAt}
use Rattle.session_scopes.specs.SessionState.{AreAlikeButNotes, IsInStep, SessionState, with_note, with_notes}
use Rattle.session_calls.specs.Calling.{IsNotedCall, IsSessionCall}
use Rattle.session_calls.proofs.Joining.{goes_alike}

-- ---- what is told

told_noted : {S A X : Type 0} (note : List Event → S → S) (v : X → A) (m : Store → Run Store A) (own now : S) (depth : ℕ) (old new : Option (Told Store)) (x : X)
    → IfSome old (λ t. depth ≡ length t.world.scopes) → ((w : Store) → depth ≡ length w.scopes → (m w).answer ≡ Ok (v x) → now ≡ note (m w).events own)
    → AsTold v m old (Ok x) new → AsTold v (on_store note m) (told_beside own old) (Ok x) (told_beside now new)
unfolding on_store
told_noted note v m own now depth None new x deep is p = tt
told_noted note v m own now depth (Some t) None x deep is p = absurd p
told_noted note v m own now depth (Some t) (Some n) x deep is p = record {
  answer = p.answer;
  world = ap (λ s. record { own = s; store = n.world }) (is t.world deep p.answer) ∙ ap (λ w. record { own = note (m t.world).events own; store = w }) p.world;
  log = p.log;
}

depth_told : (tells : Bool) (depth : ℕ) (told : Option (Told Store)) → IsCoherentTold tells depth told → IfSome told (λ t. depth ≡ length t.world.scopes)
depth_told tells depth None p = tt
depth_told tells depth (Some t) p = p.1

-- a call that answered, and what the session is once it noted what a store of this depth was sent
pub noted : {K A X : Type 0} (moment : K → Moment Store) {v : X → A} (m : Store → Run Store A) {own now : SessionState} {old new : K} {x : X} → IsCoherent (moment old)
    → ((w : Store) → (moment old).depth ≡ length w.scopes → (m w).answer ≡ Ok (v x) → now ≡ with_notes (m w).events own) → Runs moment v m old (Ok x) new → Runs (moment_beside moment) v (on_store with_notes m) (own, old) (Ok x) (now, new)
unfolding moment_beside
noted moment {v = v} m {own = own} {now = now} {old = old} {new = new} {x = x} coherent is (Ran p) = Ran (record {
  told = told_noted with_notes v m own now (moment old).depth (moment old).told (moment new).told x (depth_told (moment old).tells (moment old).depth (moment old).told coherent) is p.told;
  keeps = p.keeps;
})

-- a call that ended early, whatever was noted
pub stopped : {K A X : Type 0} {moment : K → Moment Store} {v : X → A} {m : Store → Run Store A} {own now : SessionState} {old new : K} {e : Refusal} → ends_early e ≡ true → Runs moment v m old (Err e) new
    → Runs (moment_beside moment) v (on_store with_notes m) (own, old) (Err e) (now, new)
stopped {m = m} {own = own} {now = now} {e = e} early p =
    on_keeper_noted {note = with_notes} (Noted (subst (λ b. MatchBool b (Unit {0}) ((w : Store) → (m w).answer ≡ Err e → now ≡ with_notes (m w).events own)) (sym early) tt)) p

-- ---- a statement that is sent wherever it is answered

-- the call sends this statement and nothing else, where so many scopes are open
abbrev pub IsSent : ℕ → Sent → (Store → Run Store (Unit {0})) → Type 0
IsSent depth statement m = (w : Store) → depth ≡ length w.scopes → (tables : Tables) × ((m w).events ≡ Sends statement tables ∷ [])

pub note_of : (own : SessionState) (statement : Sent) (tables : Tables) (events : List Event) → events ≡ Sends statement tables ∷ [] → with_note statement own ≡ with_notes events own
note_of own statement tables events is = ap (λ (es : List Event). with_notes es own) (sym is)

pub alike_noted : (own now : SessionState) (statement : Sent) → now ≡ with_note statement own → AreAlikeButNotes own now
alike_noted own now statement is = is ∙ ap (λ (s : SessionState). record own { notes = s.notes }) (sym is)

-- the session noted a statement, and the store was sent it
pub noted_call : {K : Type 0} (moment : K → Moment Store) (m : Store → Run Store (Unit {0})) (statement : Sent) (depth : ℕ) {own now : SessionState} {old new : K} (r : Result (Unit {0}) Refusal) → IsCoherent (moment old) → IsSent (moment old).depth statement m
    → now ≡ with_note statement own → (moment old).attached ≡ true → IsCall moment m depth old r new → IsNotedCall moment m depth (own, old) r (now, new)
noted_call moment m statement depth {own = own} {now = now} {old = old} {new = new} (Ok u) coherent sends is attached call = record {
  step = noted moment m {own = own} {now = now} coherent (λ w deep answer. let sent = sends w deep in is ∙ note_of own statement sent.0 (m w).events sent.1) call.step;
  alike = alike_noted own now statement is;
  scopes = ((parts call.step).keeps.attached ∙ attached, call.depth);
  stops = tt;
}
noted_call moment m statement depth {own = own} {now = now} {old = old} {new = new} (Err e) coherent sends is attached call = record {
  step = stopped {own = own} {now = now} call.stops call.step;
  alike = alike_noted own now statement is;
  scopes = tt;
  stops = call.stops;
}

-- ---- a statement that may be refused, and is sent then too

-- the call sends this statement and nothing else
abbrev pub IsAlwaysSent : {A : Type 0} → Sent → (Store → Run Store A) → Type 0
IsAlwaysSent statement m = (w : Store) → (tables : Tables) × ((m w).events ≡ Sends statement tables ∷ [])

noted_as : {A X : Type 0} (v : X → A) (m : Store → Run Store A) (statement : Sent) (own now : SessionState) (r : Result X Refusal) → IsAlwaysSent statement m → now ≡ with_note statement own → IsNotedAs with_notes v m own r now
noted_as v m statement own now (Ok x) sends is = λ w answer. let sent = sends w in is ∙ note_of own statement sent.0 (m w).events sent.1
noted_as v m statement own now (Err e) sends is = by (ends_early e)
  where
    by : (b : Bool) → MatchBool b (Unit {0}) ((w : Store) → (m w).answer ≡ Err e → now ≡ with_notes (m w).events own)
    by true = tt
    by false = λ w answer. let sent = sends w in is ∙ note_of own statement sent.0 (m w).events sent.1

deep_still : {A : Type 0} (r : Result A Refusal) (depth : ℕ) (old new : Moment Store) → HasDepth depth old → new.attached ≡ old.attached → new.depth ≡ depth_left r old.depth → StaysAt r depth new
deep_still (Ok x) depth old new deep attached is = (attached ∙ deep.0, is ∙ deep.1)
deep_still (Err e) depth old new deep attached is = λ own. (attached ∙ deep.0, is ∙ ap (λ (b : Bool). cond b 0 old.depth) own ∙ deep.1)

-- the session noted a statement, and the store was sent it
pub stated_call : {A K : Type 0} (moment : K → Moment Store) (m : Store → Run Store A) (statement : Sent) {MayRefuse : Refusal → Type 0} {own now : SessionState} {old new : K} {r : Result A Refusal} → IsAlwaysSent statement m
    → now ≡ with_note statement own → IsInStep own (moment old) → IsStatement moment m statement MayRefuse old r new → IsSessionCall moment (λ x. x) (on_store with_notes m) (own, old) r (now, new)
stated_call moment m statement {own = own} {now = now} {old = old} {new = new} {r = r} sends is in_step call =
    let alike : AreAlikeButNotes own now = alike_noted own now statement is in
    record {
      step = on_keeper_noted {note = with_notes} (Noted (noted_as (λ x. x) m statement own now r sends is)) call.step;
      kept = record {
        same = goes_alike own now alike;
        in_step = deep_still r (length now.frames.scopes) (moment old) (moment new) (in_step.0, in_step.1 ∙ sym (ap (λ (s : SessionState). length s.frames.scopes) alike)) (parts call.step).keeps.attached call.depth;
      };
    }

-- ---- no room

-- there was no memory for the note
pub no_note_room : {K : Type 0} (moment : K → Moment Store) (m : Store → Run Store (Unit {0})) (depth : ℕ) {own now : SessionState} {keeper : K} → now ≡ own → IsNotedCall moment m depth (own, keeper) (Err Memory) (now, keeper)
no_note_room moment m depth {own = own} {now = now} is = record {
  step = spoiled moment;
  alike = is ∙ ap (λ (s : SessionState). record own { notes = s.notes }) (sym is);
  scopes = tt;
  stops = refl;
}
