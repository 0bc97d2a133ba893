-- Programs of a session put together of others that keep it sound.
use Rattle.std.proofs.Common.{◌≡◌, true, List, Option, None, Some, Result, Ok, Err, refl, sym, subst}
use Rattle.base_core.specs.declared.refusal.Refusal.{Refusal}
use Rattle.object_arena.specs.Graph.{Graph}
use Rattle.keeper_core.specs.Store.{Store}
use Rattle.keeper_core.specs.Programs.{Event, Run, ◌>>=◌, continue_from, give, refuse}
use Rattle.keeper_core.specs.Beside.{by_own, on_own}
use Rattle.session_parts.specs.Depths.{has_scope}
use Rattle.session_scopes.specs.Changes.{changed_unless}
use Rattle.session_scopes.specs.SessionState.{SessionState, with_graph}
use Rattle.session_calls.specs.Parts.{World, checked, unless}
use Rattle.session_calls.specs.Steps.{enter}
use Rattle.session_laws.specs.Sound.{IsSound}
use Rattle.session_laws.proofs.Sound.Beginning.{enter_sound, entered_graph, entered_open}

-- ---- one program after another

continued : {A B : Type 0} (events : List Event) (w : World) (r : Result A Refusal) (next : A → World → Run World B) → IsSound w → ((a : A) → r ≡ Ok a → IsSound (next a w).after) → IsSound (continue_from events w r next).after
continued events w (Ok a) next sound later = later a refl
continued events w (Err e) next sound later = sound

pub then_sound : {A B : Type 0} (m : World → Run World A) (next : A → World → Run World B) (w : World) → IsSound (m w).after → ((a : A) → (m w).answer ≡ Ok a → IsSound (next a (m w).after).after) → IsSound ((m >>= next) w).after
unfolding ◌>>=◌
then_sound m next w sound later = continued (m w).events (m w).after (m w).answer next sound later

-- ---- checks

unless_same : (fault : Option Refusal) (w : World) → (unless fault w).after ≡ w
unfolding give refuse
unless_same None w = refl
unless_same (Some fault) w = refl

unless_none : (fault : Option Refusal) (w : World) (u : Unit {0}) → (unless fault w).answer ≡ Ok u → fault ≡ None
unfolding give refuse
unless_none None w u is = refl
unless_none (Some fault) w u is = absurd cc

-- a check changes nothing
pub checked_same : (fault : SessionState → Option Refusal) (w : World) → (checked fault w).after ≡ w
unfolding checked by_own
checked_same fault w = unless_same (fault w.own) w

-- and passes where nothing is wrong
pub checked_none : (fault : SessionState → Option Refusal) (w : World) (u : Unit {0}) → (checked fault w).answer ≡ Ok u → fault w.own ≡ None
unfolding checked by_own
checked_none fault w u is = unless_none (fault w.own) w u is

pub checked_then : {B : Type 0} (fault : SessionState → Option Refusal) (next : Unit {0} → World → Run World B) (w : World) → IsSound w → ((u : Unit {0}) → fault w.own ≡ None → IsSound (next u w).after) → IsSound ((checked fault >>= next) w).after
checked_then fault next w sound later =
    then_sound (checked fault) next w (subst IsSound (sym (checked_same fault w)) sound)
    (λ u is. subst (λ (v : World). IsSound (next u v).after) (sym (checked_same fault w)) (later u (checked_none fault w u is)))

-- ---- what is done in the transaction

pub entered_then : {B : Type 0} (next : Unit {0} → World → Run World B) (w : World) → IsSound w → ((u : Unit {0}) (v : World) → v.own.graph ≡ w.own.graph → has_scope v.own.frames.scopes ≡ true → IsSound v → IsSound (next u v).after) → IsSound ((enter >>= next) w).after
entered_then next w sound later = then_sound enter next w (enter_sound w sound) (λ u is. later u (enter w).after (entered_graph w) (entered_open w u is) (enter_sound w sound))

-- a step of the session alone
pub own_sound : {A : Type 0} (m : SessionState → Run SessionState A) (v : World) → IsSound (record { own = (m v.own).after; store = v.store }) → IsSound (on_own m v).after
unfolding on_own
own_sound m v sound = sound

-- the objects change, unless there is a fault
pub unless_changed : (fault : Option Refusal) (graph : Graph) (own : SessionState) (store : Store) → IsSound (record { own = own; store = store }) → (fault ≡ None → IsSound (record { own = with_graph graph own; store = store }))
    → IsSound (record { own = (changed_unless fault graph own).after; store = store })
unless_changed None graph own store sound later = later refl
unless_changed (Some fault) graph own store sound later = sound
