-- Calls of the session put together of checks, calls of the store, and changes of the session.
use Rattle.std.proofs.Common.{◌≡◌, ℕ, true, false, length, Option, None, Some, Result, Ok, Err, IfErr, IsErrAnd, OnOk, refl, sym, ap, ◌∙◌, subst, arith}
use Rattle.base_core.specs.declared.refusal.Refusal.{Refusal}
use Rattle.base_core.specs.declared.refusal.Refusal.TheVariants.{Memory}
use Rattle.keeper_core.specs.Alone.{IsOwn, IsQuiet}
use Rattle.keeper_core.specs.Store.{Store}
use Rattle.keeper_core.specs.Programs.{Run, ◌>>=◌, ends_early, give, refuse}
use Rattle.keeper_core.specs.Moment.{Moment}
use Rattle.keeper_core.specs.Beside.{by_own, changes, on_own, on_store}
use Rattle.keeper_core.proofs.Lifting.{chosen, ends, quietly}
use Rattle.keeper_core.proofs.Sequence.{done, refused, then_err, then_ok}
use Rattle.session_parts.specs.Depths.{HasDepth, StaysAt}
use Rattle.session_scopes.specs.SessionState.{AreAlikeButNotes, GoesOn, IsInStep, SameObjects, SessionState, with_notes}
use Rattle.session_scopes.proofs.SessionLemmas.{goes_more, goes_on}
use Rattle.session_calls.specs.Calling.{IsNotedCall, IsSessionCall}
use Rattle.session_calls.specs.Parts.{World, checked, unless}

-- ---- the same objects

pub same_itself : (session : SessionState) → SameObjects session session
same_itself session = record { mapping = refl; classes = refl; drawn = omega arith }

pub same_more : {old mid new : SessionState} → SameObjects old mid → SameObjects mid new → SameObjects old new
same_more p q = record { mapping = q.mapping ∙ p.mapping; classes = q.classes ∙ p.classes; drawn = omega (arith, p.drawn, q.drawn) }

pub same_alike : (old new : SessionState) → AreAlikeButNotes old new → SameObjects old new
same_alike old new is = subst (λ (s : SessionState). SameObjects old s) (sym is) (record { mapping = refl; classes = refl; drawn = omega arith })

-- ---- the session goes on

pub goes_itself : (session : SessionState) → GoesOn session session
goes_itself session = goes_on (same_itself session)

pub goes_alike : (old new : SessionState) → AreAlikeButNotes old new → GoesOn old new
goes_alike old new is = goes_on (same_alike old new is)

-- ---- the keeper in step

pub stays_there : {X W : Type 0} (r : Result X Refusal) (depth : ℕ) (moment : Moment W) → HasDepth depth moment → StaysAt r depth moment
stays_there (Ok x) depth moment deep = deep
stays_there (Err e) depth moment deep = λ own. deep

pub stays_early : (X : Type 0) {W : Type 0} (e : Refusal) (depth : ℕ) (moment : Moment W) → ends_early e ≡ true → StaysAt {A = X} (Err e) depth moment
stays_early X e depth moment early = λ own. absurd (let h : false ≡ true = sym own ∙ early in cc)

pub memory_early : (e : Refusal) → e ≡ Memory → ends_early e ≡ true
memory_early e is = ap ends_early is

stays_ok : {X W : Type 0} (r : Result X Refusal) (depth : ℕ) (moment : Moment W) → OnOk r (HasDepth depth moment) → IfErr r (λ e. e ≡ Memory) → StaysAt r depth moment
stays_ok (Ok x) depth moment deep cause = deep
stays_ok {X = X} {W = W} (Err e) depth moment deep cause = stays_early X e depth moment (memory_early e cause)

-- ---- calls in a row

-- one call and then another
pub then_call : {A B X Y K : Type 0} {moment : K → Moment Store} {v : X → A} {v' : Y → B} {m : World → Run World A} (next : A → World → Run World B) {old mid new : SessionState × K} {x : X} {r : Result Y Refusal}
    → IsSessionCall moment v m old (Ok x) mid → IsSessionCall moment v' (next (v x)) mid r new → IsSessionCall moment v' (m >>= next) old r new
then_call next p q = record {
  step = then_ok next p.step q.step;
  kept = record { same = goes_more p.kept.same q.kept.same; in_step = q.kept.in_step };
}

-- a call that was refused
pub err_call : {A B X Y K : Type 0} {moment : K → Moment Store} {v : X → A} {v' : Y → B} {m : World → Run World A} (next : A → World → Run World B) {old new : SessionState × K} {e : Refusal}
    → IsSessionCall moment v m old (Err e) new → IsSessionCall moment v' (m >>= next) old (Err e) new
err_call next p = record { step = then_err next p.step; kept = record { same = p.kept.same; in_step = p.kept.in_step } }

pass_on : {A X K : Type 0} (moment : K → Moment Store) (v : X → A) (m : World → Run World A) (old new : SessionState × K) (e : Refusal) (r : Result X Refusal) → IsErrAnd r (λ d. d ≡ e) → IsSessionCall moment v m old (Err e) new → IsSessionCall moment v m old r new
pass_on moment v m old new e (Ok x) is p = absurd is
pass_on moment v m old new e (Err d) is p = subst (λ (c : Refusal). IsSessionCall moment v m old (Err c) new) (sym is) p

-- the same refusal, as the answer of the call around
pub passed_call : {A X K : Type 0} {moment : K → Moment Store} {v : X → A} {m : World → Run World A} {old new : SessionState × K} {e : Refusal} {r : Result X Refusal}
    → IsErrAnd r (λ d. d ≡ e) → IsSessionCall moment v m old (Err e) new → IsSessionCall moment v m old r new
passed_call {moment = moment} {v = v} {m = m} {old = old} {new = new} {e = e} {r = r} is p = pass_on moment v m old new e r is p

-- a program chosen by the session
pub chosen_call : {A X K : Type 0} (moment : K → Moment Store) {v : X → A} (choose : SessionState → World → Run World A) {own now : SessionState} {old new : K} {r : Result X Refusal}
    → IsSessionCall moment v (choose own) (own, old) r (now, new) → IsSessionCall moment v (by_own choose) (own, old) r (now, new)
chosen_call moment choose p = record { step = chosen moment choose p.step; kept = p.kept }

-- ---- what needs no store

-- a step of the session alone, inside the scopes in progress
pub own_call : {A X K : Type 0} (moment : K → Moment Store) {v : X → A} (m : SessionState → Run SessionState A) {own now : SessionState} {keeper : K} {r : Result X Refusal}
    → IsQuiet v (m own) r now → SameObjects own now → now.frames.scopes ≡ own.frames.scopes → IsInStep own (moment keeper) → IsSessionCall moment v (on_own m) (own, keeper) r (now, keeper)
own_call moment m {own = own} {now = now} {keeper = keeper} {r = r} quiet same scopes in_step = record {
  step = quietly moment m quiet;
  kept = record {
    same = goes_on same;
    in_step = stays_there r (length now.frames.scopes) (moment keeper) (in_step.0, in_step.1 ∙ ap length (sym scopes));
  };
}

-- nothing is done
pub still_call : {A X K : Type 0} (moment : K → Moment Store) {v : X → A} {a : A} {x : X} {own : SessionState} {keeper : K} → a ≡ v x → IsInStep own (moment keeper) → IsSessionCall moment v (give a) (own, keeper) (Ok x) (own, keeper)
still_call moment {own = own} is in_step = record { step = done is; kept = record { same = goes_itself own; in_step = in_step } }

-- a refusal with nothing done
pub refused_call : {A X K : Type 0} (moment : K → Moment Store) {v : X → A} {e : Refusal} {own : SessionState} {keeper : K} → IsOwn e → IsInStep own (moment keeper) → IsSessionCall moment v (refuse e) (own, keeper) (Err e) (own, keeper)
refused_call moment {own = own} is in_step = record { step = refused is.0 is.1; kept = record { same = goes_itself own; in_step = λ own_refusal. in_step } }

-- a check that passes
pub passes : {K : Type 0} (moment : K → Moment Store) (fault : SessionState → Option Refusal) {own : SessionState} {keeper : K} → fault own ≡ None → IsInStep own (moment keeper)
    → IsSessionCall moment (λ u. u) (checked fault) (own, keeper) (Ok tt) (own, keeper)
unfolding checked
passes moment fault {own = own} {keeper = keeper} none in_step =
    chosen_call moment (λ session. unless (fault session))
    (subst (λ (f : Option Refusal). IsSessionCall moment (λ u. u) (unless f) (own, keeper) (Ok tt) (own, keeper)) (sym none) (still_call moment refl in_step))

-- a check that refuses
pub fails : {X K : Type 0} (moment : K → Moment Store) (fault : SessionState → Option Refusal) {v : X → Unit {0}} {own : SessionState} {keeper : K} {e : Refusal} → fault own ≡ Some e → IsOwn e → IsInStep own (moment keeper)
    → IsSessionCall moment v (checked fault) (own, keeper) (Err e) (own, keeper)
unfolding checked
fails moment fault {v = v} {own = own} {keeper = keeper} {e = e} some is in_step =
    chosen_call moment (λ session. unless (fault session))
    (subst (λ (f : Option Refusal). IsSessionCall moment v (unless f) (own, keeper) (Err e) (own, keeper)) (sym some) (refused_call moment is in_step))

-- a change of the session
pub change_call : {K : Type 0} (moment : K → Moment Store) (f : SessionState → SessionState) {own now : SessionState} {keeper : K} {r : Result (Unit {0}) Refusal}
    → OnOk r (now ≡ f own) → IfErr r (λ e. e ≡ Memory) → SameObjects own now → OnOk r (HasDepth (length now.frames.scopes) (moment keeper)) → IsSessionCall moment (λ u. u) (changes f) (own, keeper) r (now, keeper)
change_call moment f {own = own} {now = now} {keeper = keeper} {r = r} is cause same deep = record {
  step = ends moment f is cause;
  kept = record { same = goes_on same; in_step = stays_ok r (length now.frames.scopes) (moment keeper) deep cause };
}

-- ---- a call of the store that was noted

-- and then a change of the session
pub noted_then : {K : Type 0} (moment : K → Moment Store) {m : Store → Run Store (Unit {0})} (f : SessionState → SessionState) (depth : ℕ) {own mid now : SessionState} {old keeper : K} {r : Result (Unit {0}) Refusal} → IsNotedCall moment m depth (own, old) (Ok tt) (mid, keeper)
    → OnOk r (now ≡ f mid) → IfErr r (λ e. e ≡ Memory) → SameObjects mid now → OnOk r (length now.frames.scopes ≡ depth) → IsSessionCall moment (λ u. u) (on_store with_notes m >>= λ u. changes f) (own, old) r (now, keeper)
noted_then moment f depth {own = own} {mid = mid} {now = now} {keeper = keeper} {r = r} p is cause same long = record {
  step = then_ok (λ u. changes f) p.step (ends moment f is cause);
  kept = record {
    same = goes_on (same_more (same_alike own mid p.alike) same);
    in_step = stays_ok r (length now.frames.scopes) (moment keeper) (deep r long) cause;
  };
}
  where
    deep : (r : Result (Unit {0}) Refusal) → OnOk r (length now.frames.scopes ≡ depth) → OnOk r (HasDepth (length now.frames.scopes) (moment keeper))
    deep (Ok u) is_long = (p.scopes.0, p.scopes.1 ∙ sym is_long)
    deep (Err e) is_long = tt

-- it ended early
pub noted_err : {B Y K : Type 0} (moment : K → Moment Store) {m : Store → Run Store (Unit {0})} {v' : Y → B} (next : Unit {0} → World → Run World B) (depth : ℕ) {own now : SessionState} {old new : K} {e : Refusal} → IsNotedCall moment m depth (own, old) (Err e) (now, new)
    → IsSessionCall moment v' (on_store with_notes m >>= next) (own, old) (Err e) (now, new)
noted_err {Y = Y} moment next depth {own = own} {now = now} {new = new} {e = e} p = record {
  step = then_err next p.step;
  kept = record { same = goes_alike own now p.alike; in_step = stays_early Y e (length now.frames.scopes) (moment new) p.stops };
}
