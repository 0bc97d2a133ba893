-- What a flush reads before it writes, and what is given back of it.
use Rattle.std.proofs.Common.{◌≡◌, ◌⊎◌, inl, inr, ℕ, zero, suc, ◌+◌, List, [], ◌∷◌, length, map, append-nil, Option, None, Some, Result, Ok, Err, IfErr, refl, sym, ap, ◌∙◌, subst, arith}
use Rattle.std.specs.Prelude.{slice_get}
use Rattle.std.specs.List.{enumerate_from}
use Rattle.base_core.specs.declared.refusal.Refusal.{Refusal}
use Rattle.base_core.specs.declared.refusal.Refusal.TheVariants.{Memory}
use Rattle.object_arena.specs.declared.object.Object.{Object}
use Rattle.object_arena.specs.Graph.{Graph, object_limit}
use Rattle.object_records.specs.declared.kept.Held.{Held}
use Rattle.object_records.specs.Kept.{given_back, held_by, held_in, holding}
use Rattle.keeper_core.specs.Store.{Store}
use Rattle.keeper_core.specs.Moment.{Moment}
use Rattle.keeper_core.proofs.Sequence.{reaches_start}
use Rattle.load_preparing.specs.Preparing.{read_going}
use Rattle.load_preparing.specs.Refusals.{CanRefuseReading}
use Rattle.load_preparing.proofs.ReadingLemmas.{turn_done}
use Rattle.prepared_objects.specs.Known.{next_unread}
use Rattle.session_scopes.specs.Keeping.{session_given_back}
use Rattle.session_scopes.specs.Loads.{IsLoadedFrom, IsRefusedLoad, IsShownIn, loading_in, on_load}
use Rattle.session_scopes.specs.SessionState.{IsInStep, SameObjects, SessionState}
use Rattle.session_scopes.proofs.LoadLemmas.{loaded}
use Rattle.session_calls.specs.Calling.{IsSessionCall}
use Rattle.session_calls.proofs.Joining.{change_call, chosen_call, still_call, then_call}
use Rattle.session_acts.specs.Flush.{give_up, give_up_to, prepare}
use Rattle.session_acts.specs.Outcome.{IsShownAsRead}

-- ---- the reading

-- where nothing is to be read, nothing is
pub nothing_read : {K : Type 0} (moment : K → Moment Store) {own : SessionState} {keeper : K} → next_unread own.mapping own.graph ≡ None → IsInStep own (moment keeper) → IsSessionCall moment (λ (u : Unit {0}). u) prepare (own, keeper) (Ok tt) (own, keeper)
unfolding prepare read_going
nothing_read moment {own = own} {keeper = keeper} none in_step =
    chosen_call moment (λ session. on_load (read_going session.mapping))
    (record {
      step =
          loaded moment (read_going own.mapping) {session = own} {now = own} {own = loading_in own} {r = Ok tt} (λ i. record own { notes = sym (append-nil own.notes) i })
          (turn_done moment own.mapping object_limit {own = loading_in own} {keeper = keeper} (omega arith) none reaches_start);
      kept = (still_call moment {v = λ (u : Unit {0}). u} {x = tt} refl in_step).kept;
    })

-- a reading was refused
pub reading_refused : (old new : SessionState) (was now : Moment Store) (r : Result (Unit {0}) Refusal) → IsLoadedFrom old new → IfErr r (λ e. (e ≡ Memory) ⊎ ((e ≡ Memory) ⊎ CanRefuseReading old.mapping new.graph e))
    → IfErr r (λ e. (e ≡ Memory) ⊎ IsShownIn (IsShownAsRead old.mapping) old was new now e) → IfErr r (λ e. IsRefusedLoad CanRefuseReading IsShownAsRead old was e new now)
reading_refused old new was now (Ok u) left cause shown = tt
reading_refused old new was now (Err e) left cause shown = record { left = left; cause = by cause; shown = shown }
  where
    by : (e ≡ Memory) ⊎ ((e ≡ Memory) ⊎ CanRefuseReading old.mapping new.graph e) → (e ≡ Memory) ⊎ CanRefuseReading old.mapping new.graph e
    by (inl memory) = inl memory
    by (inr (inl memory)) = inl memory
    by (inr (inr may)) = inr may

-- ---- what is given back

-- objects that have what was kept of them stay
objects_stay : (all : List Held) (k : ℕ) (objects : List Object) → ((i : ℕ) (object : Object) → slice_get objects i ≡ Some object → slice_get all (k + i) ≡ Some (held_by object))
    → map (λ (placed : ℕ × Object). holding (slice_get all placed.0) placed.1) (enumerate_from k objects) ≡ objects
objects_stay all k [] kept = refl
objects_stay all k (object ∷ objects) kept =
    let first : k + 0 ≡ k = omega arith in
    ap (λ (o : Object). o ∷ map (λ (placed : ℕ × Object). holding (slice_get all placed.0) placed.1) (enumerate_from (k + 1) objects)) (ap (λ (held : Option Held). holding held object) (ap (slice_get all) (sym first) ∙ kept 0 object refl))
    ∙ ap (λ (os : List Object). object ∷ os) (objects_stay all (k + 1) objects (λ i other at. let next : k + suc i ≡ k + 1 + i = omega arith in subst (λ (n : ℕ). slice_get all n ≡ Some (held_by other)) next (kept (suc i) other at)))

held_there : (objects : List Object) (i : ℕ) (object : Object) → slice_get objects i ≡ Some object → slice_get (map held_by objects) i ≡ Some (held_by object)
held_there [] i object at = absurd cc
held_there (one ∷ objects) zero object at = ap (λ (o : Option Object). held_of o) at
  where
    held_of : Option Object → Option Held
    held_of None = None
    held_of (Some it) = Some (held_by it)
held_there (one ∷ objects) (suc i) object at = held_there objects i object at

pub given_nothing : (graph : Graph) → given_back (held_in graph) graph ≡ graph
given_nothing graph =
    ap (λ (objects : List Object). record graph { objects = objects })
    (objects_stay (held_in graph) 0 graph.objects (λ i object at. let first : 0 + i ≡ i = omega arith in subst (λ (n : ℕ). slice_get (held_in graph) n ≡ Some (held_by object)) (sym first) (held_there graph.objects i object at)))

pub session_same : (own : SessionState) → session_given_back (held_in own.graph) own ≡ own
session_same own = ap (λ (graph : Graph). record own { graph = graph }) (given_nothing own.graph)

-- what was kept was given back, and the scope given up
pub gave_back : {K : Type 0} (moment : K → Moment Store) (held : List Held) {own mid now : SessionState} {old new : K} {r : Result (Unit {0}) Refusal} → IsInStep own (moment old) → mid ≡ session_given_back held own → SameObjects own mid
    → IsSessionCall moment (λ (u : Unit {0}). u) give_up (mid, old) r (now, new) → IsSessionCall moment (λ (u : Unit {0}). u) (give_up_to held) (own, old) r (now, new)
unfolding give_up_to
gave_back moment held {own = own} {mid = mid} in_step is same gave =
    then_call (λ u. give_up)
    (change_call moment (session_given_back held) {r = Ok tt} is tt same (in_step.0, in_step.1 ∙ sym (ap (λ (s : SessionState). length s.frames.scopes) is)))
    gave
