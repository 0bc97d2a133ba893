-- The flush, put together of what it reads, what it writes and what it gives up.
use Rattle.std.proofs.Common.{◌≡◌, Bool, false, List, length, None, Result, MatchBool, sym, ap, ◌∙◌, subst}
use Rattle.base_core.specs.declared.ids.ClassId.{ClassId}
use Rattle.base_core.specs.declared.refusal.Refusal.{Refusal}
use Rattle.object_arena.specs.Graph.{Graph}
use Rattle.object_records.specs.declared.kept.Held.{Held}
use Rattle.object_records.specs.Kept.{held_in}
use Rattle.keeper_core.specs.Store.{Store}
use Rattle.keeper_core.specs.Moment.{Moment}
use Rattle.keeper_core.specs.Programs.{ends_early, with_undo}
use Rattle.prepared_objects.specs.Known.{next_unread}
use Rattle.session_scopes.specs.Keeping.{IsKeptOf, session_given_back}
use Rattle.session_scopes.specs.Loads.{IsLoadedFrom}
use Rattle.session_scopes.specs.SessionState.{AreAlikeButNotes, IsInStep, IsMadeOf, SameObjects, SessionState}
use Rattle.session_calls.specs.Calling.{IsSessionCall}
use Rattle.session_calls.proofs.Joining.{chosen_call, same_itself, then_call}
use Rattle.session_acts.specs.Flush.{flush, give_up, give_up_to, write_loaded, write_objects}
use Rattle.session_acts.specs.Outcome.{IsUntouched}
use Rattle.session_acts.proofs.ReadingSteps.{gave_back, nothing_read, session_same}

module _ {K : Type 0} (moment : K → Moment Store) {own : SessionState} {old : K} where
  -- the objects were written, or that was given up
  pub guarded : {now : SessionState} {new : K} {r : Result (Unit {0}) Refusal} → IsSessionCall moment (λ (u : Unit {0}). u) (with_undo write_objects (give_up_to (held_in own.graph))) (own, old) r (now, new)
      → IsSessionCall moment (λ (u : Unit {0}). u) flush (own, old) r (now, new)
  unfolding flush
  guarded p = chosen_call moment (λ session. with_undo write_objects (give_up_to (held_in session.graph))) p

  -- nothing was to be read
  pub known_call : {now : SessionState} {new : K} {r : Result (Unit {0}) Refusal} → next_unread own.mapping own.graph ≡ None → IsInStep own (moment old) → IsSessionCall moment (λ (u : Unit {0}). u) write_loaded (own, old) r (now, new)
      → IsSessionCall moment (λ (u : Unit {0}). u) write_objects (own, old) r (now, new)
  unfolding write_objects
  known_call none in_step p = then_call (λ u. write_loaded) (nothing_read moment none in_step) p

-- the objects are those that there were
alike_same : (own mid : SessionState) → AreAlikeButNotes own mid → mid ≡ session_given_back (held_in own.graph) mid
alike_same own mid alike =
    let same : own.graph ≡ mid.graph = sym (ap (λ (s : SessionState). s.graph) alike) in
    sym (session_same mid) ∙ ap (λ (graph : Graph). session_given_back (held_in graph) mid) (sym same)

untouched_alike : (e : Refusal) (own mid : SessionState) → ends_early e ≡ false → IsUntouched e own mid → AreAlikeButNotes own mid
untouched_alike e own mid late untouched = subst (λ (b : Bool). MatchBool b (Unit {0}) (AreAlikeButNotes own mid)) late untouched

-- nothing is given back then
pub known_gave_up : {K : Type 0} (moment : K → Moment Store) (own : SessionState) (e : Refusal) {mid now : SessionState} {late new : K} {r : Result (Unit {0}) Refusal} → ends_early e ≡ false → IsUntouched e own mid → IsInStep mid (moment late)
    → IsSessionCall moment (λ (u : Unit {0}). u) give_up (mid, late) r (now, new) → IsSessionCall moment (λ (u : Unit {0}). u) (give_up_to (held_in own.graph)) (mid, late) r (now, new)
known_gave_up moment own e {mid = mid} late untouched in_step gave =
    gave_back moment (held_in own.graph) in_step (alike_same own mid (untouched_alike e own mid late untouched)) (same_itself mid) gave

-- what was kept can be given back after a load
pub kept_since : (own mid : SessionState) (kept : List Held) → IsKeptOf own.mapping kept own.graph → IsLoadedFrom own mid → IsKeptOf mid.mapping kept mid.graph
kept_since own mid kept of left =
    subst (λ mapped. IsKeptOf mapped kept mid.graph) (sym left.goes.mapping)
    (record { before = of.before; held = of.held; fit = of.fit; there = λ object made. let still = of.there object made in subst (λ (class : ClassId). IsMadeOf mid.graph object class) still.1 (left.goes.there object still.0); narrow = of.narrow })

-- what was kept was given back
pub gave_read : {K : Type 0} (moment : K → Moment Store) (own : SessionState) {mid back now : SessionState} {late new : K} {r : Result (Unit {0}) Refusal} {kept : List Held} → kept ≡ held_in own.graph → IsInStep mid (moment late) → back ≡ session_given_back kept mid → SameObjects mid back
    → IsSessionCall moment (λ (u : Unit {0}). u) give_up (back, late) r (now, new) → IsSessionCall moment (λ (u : Unit {0}). u) (give_up_to (held_in own.graph)) (mid, late) r (now, new)
gave_read moment own {mid = mid} {now = now} {late = late} {new = new} {r = r} {kept = kept} held in_step is same gave =
    subst (λ (all : List Held). IsSessionCall moment (λ (u : Unit {0}). u) (give_up_to all) (mid, late) r (now, new)) held (gave_back moment kept in_step is same gave)

pub given_in_step : {W : Type 0} (moment : Moment W) (mid back : SessionState) (kept : List Held) → back ≡ session_given_back kept mid → IsInStep mid moment → IsInStep back moment
given_in_step moment mid back kept is in_step = (in_step.0, in_step.1 ∙ sym (ap (λ (s : SessionState). length s.frames.scopes) is))
