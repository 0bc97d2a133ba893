-- An object of a whole session is expired, with those that hang on it, and the session stays whole.
use Rattle.base_core.specs.declared.ids.ObjId.{ObjId}
use Rattle.keeper_core.specs.Beside.{changes}
use Rattle.keeper_core.specs.Programs.{◌>>=◌}
use Rattle.keeper_core.specs.Store.{Store}
use Rattle.session_scopes.specs.SessionState.{SessionState}
use Rattle.session_calls.specs.Parts.{World, checked}
use Rattle.session_calls.specs.Steps.{enter}
use Rattle.session_loads.specs.Asking.{persistence_fault}
use Rattle.session_loads.specs.Expiring.{session_expired}
use Rattle.session_loads.specs.Reads.{expire, expire_inside}
use Rattle.session_laws.specs.Whole.{IsHale}
use Rattle.session_laws.proofs.Health.Acts.{IsLed, led_checked, led_then}
use Rattle.session_laws.proofs.Whole.Inside.{IsWithin}
use Rattle.session_load_laws.proofs.Expiring.{closure_expired, one_within}
use Rattle.session_load_laws.proofs.Going.{IsGoing, enter_going, going_of}

expired_within : (first : SessionState) (store : Store) (object : ObjId) (own : SessionState) → IsWithin first (record { own = own; store = store }) → IsWithin first (record { own = session_expired object own; store = store })
expired_within first store object own it = closure_expired (λ (now : SessionState). IsWithin first (record { own = now; store = store })) (one_within first store) object own it

-- in the transaction
expired_led : (first : SessionState) (object : ObjId) (w : World) → IsWithin first w → IsLed (IsGoing first) (IsWithin first) (changes (session_expired object) w)
unfolding changes
expired_led first object w it = let done = expired_within first w.store object w.own it in record { here = going_of done; told = λ u is. done }

inside_led : (first : SessionState) (object : ObjId) (w : World) → IsWithin first w → IsLed (IsGoing first) (IsWithin first) (expire_inside object w)
inside_led first object w it =
    led_then (IsGoing first) (IsWithin first) (IsWithin first) (checked (persistence_fault object)) (λ u. changes (session_expired object)) w
    (led_checked (IsGoing first) (IsWithin first) (persistence_fault object) w (going_of it) (λ none. it))
    (λ u again. expired_led first object (checked (persistence_fault object) w).after again)

-- whatever it answers
pub expire_hale : (object : ObjId) (w : World) → IsHale w → IsGoing w.own (expire object w).after
unfolding expire
expire_hale object w hale =
    (led_then (IsGoing w.own) (IsWithin w.own) (IsWithin w.own) enter (λ u. expire_inside object) w (enter_going w hale) (λ u it. inside_led w.own object (enter w).after it)).here
