-- A flush over a keeper that tells is the flush of what it told.
use Rattle.std.proofs.Common.{◌≡◌, Option, None, Some, Ok, ap, subst}
use Rattle.keeper_core.specs.Store.{Store}
use Rattle.keeper_core.specs.Moment.{AsTold, Moment, Told, parts}
use Rattle.keeper_core.specs.Beside.{moment_beside, told_beside}
use Rattle.session_scopes.specs.SessionState.{SessionState}
use Rattle.session_calls.specs.Calling.{IsSessionCall}
use Rattle.session_acts.specs.Flush.{flush}
use Rattle.session_laws.specs.Flushes.{IsRunOf, world_of}

told_then : (own now : SessionState) (told : Told Store) (new : Option (Told Store)) → AsTold (λ (u : Unit {0}). u) flush (told_beside own (Some told)) (Ok tt) (told_beside now new) → IsRunOf (world_of own told) told.log now new
told_then own now told None p = absurd p
told_then own now told (Some then) p = record { answer = p.answer; own = ap (λ w. w.own) p.world; store = ap (λ w. w.store) p.world; log = p.log }

pub told_run : {K : Type 0} (moment : K → Moment Store) (own now : SessionState) (old new : K) (told : Told Store) → (moment old).told ≡ Some told → IsSessionCall moment (λ (u : Unit {0}). u) flush (own, old) (Ok tt) (now, new)
    → IsRunOf (world_of own told) told.log now (moment new).told
unfolding moment_beside
told_run moment own now old new told is call =
    told_then own now told (moment new).told (subst (λ (t : Option (Told Store)). AsTold (λ (u : Unit {0}). u) flush (told_beside own t) (Ok tt) (told_beside now (moment new).told)) is (parts call.step).told)
