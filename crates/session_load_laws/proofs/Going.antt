-- A whole session goes on in its transaction, whatever is answered.
use Rattle.std.proofs.Common.{◌≡◌, Bool, true, false, not, None, refl, sym, ap, ◌∙◌, subst}
use Rattle.base_core.specs.declared.ids.ObjId.{ObjId}
use Rattle.base_core.specs.declared.ids.RelNo.{RelNo}
use Rattle.base_core.specs.declared.refusal.Refusal.{Refusal}
use Rattle.keeper_core.specs.Beside.{Beside}
use Rattle.keeper_core.specs.Programs.{Run}
use Rattle.load_rows.specs.Loading.{Loading}
use Rattle.load_steps.specs.Loads.{Load}
use Rattle.relations.specs.declared.calls.LinkCall.{LinkCall}
use Rattle.session_scopes.specs.Loads.{on_load}
use Rattle.session_scopes.specs.SessionState.{GoesOn, SessionState}
use Rattle.session_calls.specs.Parts.{World, fault_if}
use Rattle.session_calls.specs.Steps.{enter}
use Rattle.session_calls.proofs.Joining.{goes_itself}
use Rattle.session_links.specs.Steps.{change_inside, change_link}
use Rattle.session_acts.specs.Flush.{flush}
use Rattle.session_laws.specs.LinkCalls.{IsLinkCall}
use Rattle.session_laws.specs.Whole.{IsHale}
use Rattle.session_laws.specs.Loads.{IsLoad, IsRereadOf, loading_of}
use Rattle.session_laws.specs.Preparing.{PreparationsLeaveReread}
use Rattle.session_laws.proofs.Loads.Objects.{loaded_anew}
use Rattle.session_laws.proofs.Health.Acts.{FlushLeavesSound, FlushWritesAll, IsLed}
use Rattle.session_laws.proofs.Whole.Inside.{IsWithin, change_within, enter_within, flush_within, goes_within, load_within}
use Rattle.session_laws.proofs.Whole.Programs as keyed
use Rattle.session_laws.proofs.Whole.Reads.{reads_in}
use Rattle.session_laws.proofs.Whole.Since.{IsKeyedSince, since_steps}
use Rattle.session_load_laws.specs.Loads.{LoadsLeaveLoaded, MayLoad, loaded_by}

-- a whole session that has gone on from a first one
pub record IsGoing (first : SessionState) (w : World) : Type 0 where
  pub hale : IsHale w
  pub goes : GoesOn first w.own

pub going_of : {first : SessionState} {w : World} → IsWithin first w → IsGoing first w
going_of it = record { hale = it.hale; goes = it.goes }

since_of : (first : SessionState) (w : World) → IsWithin first w → IsKeyedSince first w.own
since_of first w it = record { keyed = it.hale.keyed; same = it.goes }

-- what leaves a whole session, and one that has gone on
led_going : {A : Type 0} (first : SessionState) (run : Run World A) → IsLed IsHale (IsWithin first) run → IsKeyedSince first run.after.own → IsLed (IsGoing first) (IsWithin first) run
led_going first run led since = record { here = record { hale = led.here; goes = since.same }; told = led.told }

pub enter_going : (w : World) → IsHale w → IsLed (IsGoing w.own) (IsWithin w.own) (enter w)
enter_going w hale = led_going w.own (enter w) (enter_within w hale) ((keyed.enters (IsKeyedSince w.own) (since_steps w.own)).kept w (record { keyed = hale.keyed; same = goes_itself w.own }))

pub flush_going : PreparationsLeaveReread → FlushLeavesSound → FlushWritesAll → (first : SessionState) (w : World) → IsWithin first w → IsLed (IsGoing first) (IsWithin first) (flush w)
flush_going reads keeps answers first w it =
    led_going first (flush w) (flush_within reads keeps answers first w it) (keyed.flushes_in (IsKeyedSince first) (since_steps first) w (reads_in reads w it.hale) (since_of first w it))

pub load_going : {A : Type 0} (m : Beside Loading → Run (Beside Loading) A) (first : SessionState) (w : World) → IsWithin first w → IsLoad m w → IsLed (IsGoing first) (IsWithin first) (on_load m w)
load_going m first w it load = led_going first (on_load m w) (load_within m first w it load) (keyed.loads (IsKeyedSince first) (since_steps first) m w load.loads.fit load.loads.grows (since_of first w it))

-- a load of the session's objects, by whatever program
pub loaded_going : {A : Type 0} → LoadsLeaveLoaded → (load : Load) (m : Beside Loading → Run (Beside Loading) A) (first : SessionState) (w : World) → (m (loading_of w)).after ≡ loaded_by load w → MayLoad load w → IsWithin first w → IsLed (IsGoing first) (IsWithin first) (on_load m w)
loaded_going loads load m first w is may it =
    let left = loads load w may it.hale in
    load_going m first w it (record { store = ap (λ (d : Beside Loading). d.store) is ∙ left.1; loads = subst (IsRereadOf w) (sym (ap (λ (d : Beside Loading). d.own) is)) (loaded_anew w (loaded_by load w).own left.0) })

pub change_going : (owner : ObjId) (place : RelNo) (call : LinkCall) (first : SessionState) (w : World) → IsLinkCall w.own.mapping w.own.graph owner place call → IsWithin first w → IsGoing first (change_inside owner place call w).after
unfolding change_link
change_going owner place call first w on it =
    let since : IsKeyedSince first (change_link owner place call w).after.own = keyed.links (IsKeyedSince first) (since_steps first) owner place call w on (since_of first w it) in
    record {
      hale = change_within owner place call first w on it;
      goes = subst (λ (v : World). GoesOn first v.own) (goes_within (λ u. change_inside owner place call) first w it) since.same;
    }

-- ---- what is asked of an object

-- nothing was against it
pub passed : (persists : Bool) (fault : Refusal) → fault_if (not persists) fault ≡ None → persists ≡ true
passed true fault none = refl
passed false fault none = absurd cc
