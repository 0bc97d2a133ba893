-- A whole session inside its transaction, and what is done there.
use Rattle.std.proofs.Common.{◌≡◌, Bool, true, false, List, [], Ok, refl, sym, ap, subst}
use Rattle.base_core.specs.declared.ids.ObjId.{ObjId}
use Rattle.base_core.specs.declared.ids.RelNo.{RelNo}
use Rattle.base_core.specs.declared.refusal.Refusal.TheVariants.{PendingRollbackError}
use Rattle.keeper_core.specs.Beside.{Beside, by_own}
use Rattle.keeper_core.specs.Programs.{Run, ◌>>=◌, continue_from, give}
use Rattle.load_rows.specs.Loading.{Loading}
use Rattle.relations.specs.declared.calls.LinkCall.{LinkCall}
use Rattle.savepoints.specs.declared.scope.Scope.{Scope}
use Rattle.session_parts.specs.Depths.{has_scope}
use Rattle.session_scopes.specs.Loads.{on_load}
use Rattle.session_scopes.specs.SessionState.{GoesOn, SessionState, in_transaction}
use Rattle.session_scopes.proofs.SessionLemmas.{goes_more}
use Rattle.session_calls.specs.Parts.{World, checked, fault_if, unless}
use Rattle.session_calls.specs.Steps.{begin_unless, enter}
use Rattle.session_calls.proofs.Joining.{goes_itself}
use Rattle.session_links.specs.Steps.{change_inside, change_link}
use Rattle.session_acts.specs.Flush.{flush}
use Rattle.session_acts.proofs.Unwritten.{scope_open}
use Rattle.session_laws.specs.LinkCalls.{IsLinkCall}
use Rattle.session_laws.specs.Whole.{IsHale, IsKeyed}
use Rattle.session_laws.specs.Loads.{IsLoad, loading_of}
use Rattle.session_laws.specs.Preparing.{PreparationsLeaveReread}
use Rattle.session_laws.proofs.Sound.Beginning.{entered_open}
use Rattle.session_laws.proofs.Health.Acts.{FlushLeavesSound, FlushWritesAll, IsInside, IsLed, enter_led, flush_led, some_scopes}
use Rattle.session_laws.proofs.Health.Programs.{link_tidy}
use Rattle.session_laws.proofs.LinkCalls.Linking.{change_sound}
use Rattle.session_laws.proofs.Loads.Laws.{whole_law}
use Rattle.session_laws.proofs.Loads.Sessions.{loaded_goes_on}
use Rattle.session_laws.proofs.Loads.Touched.{filled_scopes}
use Rattle.session_laws.proofs.Whole.Handled.{calm_led, enter_calm, link_handled}
use Rattle.session_laws.proofs.Whole.Programs as keyed
use Rattle.session_laws.proofs.Whole.Reads.{reads_in}
use Rattle.session_laws.proofs.Whole.Since.{IsKeyedSince, keyed_steps, since_steps}

-- a whole session in its transaction, where no rollback is awaited, that has gone on from a first one
pub record IsWithin (first : SessionState) (w : World) : Type 0 where
  pub hale : IsHale w
  pub opened : in_transaction w.own ≡ true
  pub awake : w.own.failed ≡ false
  pub goes : GoesOn first w.own

-- ---- the transaction

pub enter_within : (w : World) → IsHale w → IsLed IsHale (IsWithin w.own) (enter w)
enter_within w hale =
    let v : World = (enter w).after in
    let healthy = enter_led w (record { fit = hale.keyed.fit; handled = hale.handled }) hale.healthy in
    let since : IsKeyedSince w.own v.own = (keyed.enters (IsKeyedSince w.own) (since_steps w.own)).kept w (record { keyed = hale.keyed; same = goes_itself w.own }) in
    let here : IsHale v = record { healthy = healthy.here; keyed = since.keyed; handled = (enter_calm w hale.handled).here } in
    record { here = here; told = λ u is. record { hale = here; opened = entered_open w u is; awake = (healthy.told u is).well.well; goes = since.same } }

still_by : (failed : Bool) (w : World) → failed ≡ false → in_transaction w.own ≡ true → (unless (fault_if failed PendingRollbackError) >>= λ u. by_own (λ session. begin_unless (in_transaction session))) w ≡ give tt w
unfolding ◌>>=◌ give by_own
still_by true w awake opened = absurd cc
still_by false w awake opened = ap (λ (b : Bool). continue_from [] w (Ok tt) (λ (u : Unit {0}). begin_unless b)) opened

-- where it is in progress nothing is done
pub enter_still : (first : SessionState) (w : World) → IsWithin first w → enter w ≡ give tt w
unfolding enter checked by_own ◌>>=◌ give
enter_still first w it = still_by w.own.failed w it.awake it.opened

-- what goes on in it is what goes on
pub goes_within : {B : Type 0} (next : Unit {0} → World → Run World B) (first : SessionState) (w : World) → IsWithin first w → ((enter >>= next) w).after ≡ (next tt w).after
unfolding ◌>>=◌ give
goes_within next first w it = ap (λ (run : Run World (Unit {0})). (continue_from run.events run.after run.answer next).after) (enter_still first w it)

-- ---- the flush

inside_of : (first : SessionState) (w : World) → IsWithin first w → IsInside w.own.mapping w
inside_of first w it = record {
  healthy = it.hale.healthy;
  fit = it.hale.keyed.fit;
  well = record { handled = it.hale.handled; well = it.awake };
  inside = some_scopes w.own.frames.scopes it.opened;
  same = refl;
}

pub flush_within : PreparationsLeaveReread → FlushLeavesSound → FlushWritesAll → (first : SessionState) (w : World) → IsWithin first w → IsLed IsHale (IsWithin first) (flush w)
flush_within reads keeps answers first w it =
    let v : World = (flush w).after in
    let healthy = flush_led reads keeps answers w.own.mapping w (inside_of first w it) in
    let since : IsKeyedSince first v.own = keyed.flushes_in (IsKeyedSince first) (since_steps first) w (reads_in reads w it.hale) (record { keyed = it.hale.keyed; same = it.goes }) in
    let here : IsHale v = record { healthy = healthy.here; keyed = since.keyed; handled = (calm_led w (record { handles = it.hale.handled; well = it.awake })).here } in
    record {
      here = here;
      told = λ u is.
          let done = healthy.told u is in
          record { hale = here; opened = scope_open v.own.frames.scopes done.committable.inside; awake = done.committable.well.well; goes = since.same };
    }

-- ---- loads

pub load_within : {A : Type 0} (m : Beside Loading → Run (Beside Loading) A) (first : SessionState) (w : World) → IsWithin first w → IsLoad m w → IsLed IsHale (IsWithin first) (on_load m w)
unfolding on_load
load_within m first w it load =
    let own : Loading = (m (loading_of w)).after.own in
    let here : IsHale (on_load m w).after = whole_law m w it.opened load it.hale in
    record {
      here = here;
      told = λ a is. record {
        hale = here;
        opened = subst (λ (scopes : List Scope). has_scope scopes ≡ true) (sym (filled_scopes own.graph own.notes w.own.frames)) it.opened;
        awake = it.awake;
        goes = goes_more it.goes (loaded_goes_on own w.own load.loads.grows);
      };
    }

-- ---- links

-- a change of a link
pub change_within : (owner : ObjId) (place : RelNo) (call : LinkCall) (first : SessionState) (w : World) → IsLinkCall w.own.mapping w.own.graph owner place call → IsWithin first w → IsHale (change_inside owner place call w).after
unfolding change_link
change_within owner place call first w on it =
    let v : World = (change_link owner place call w).after in
    let hale : IsHale v = record {
      healthy = record { sound = change_sound owner place call w it.hale.keyed.fit on.made on.end it.hale.healthy.sound; tidy = (link_tidy owner place call).kept w it.hale.healthy.tidy };
      keyed = keyed.links IsKeyed keyed_steps owner place call w on it.hale.keyed;
      handled = (link_handled owner place call).kept w it.hale.handled;
    } in
    subst IsHale (goes_within (λ u. change_inside owner place call) first w it) hale
