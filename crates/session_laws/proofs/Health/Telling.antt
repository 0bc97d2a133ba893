-- What a keeper tells after a call of a session is what the call's program leaves.
use Rattle.std.proofs.Common.{◌≡◌, Bool, false, Option, None, Some, MatchBool, Result, Ok, Err, IfErr, IfSome, sym, subst}
use Rattle.base_core.specs.declared.refusal.Refusal.{Refusal}
use Rattle.keeper_core.specs.Beside.{moment_beside, told_beside}
use Rattle.keeper_core.specs.Moment.{AsTold, IsCutOff, IsRun, Moment, Told, parts}
use Rattle.keeper_core.specs.Programs.{Run, ends_early}
use Rattle.keeper_core.specs.Store.{Store}
use Rattle.session_calls.specs.Calling.{IsSessionCall}
use Rattle.session_calls.specs.Parts.{World}
use Rattle.session_laws.specs.Flushes.{world_of}
use Rattle.session_scopes.specs.SessionState.{SessionState}
use Rattle.session_laws.specs.Health.Health.{IsHealthy}

ran : {A X : Type 0} (view : X → A) (m : World → Run World A) (own now : SessionState) (told : Told Store) (result : Result X Refusal) (new : Option (Told Store)) → IsHealthy (m (world_of own told)).after → IfErr result (λ e. ends_early e ≡ false)
    → AsTold view m (told_beside own (Some told)) result (told_beside now new) → IfSome new (λ t. IsHealthy (world_of now t))
ran view m own now told result None healthy whole did = tt
ran view m own now told (Ok x) (Some n) healthy whole did = subst IsHealthy (sym did.world) healthy
ran view m own now told (Err e) (Some n) healthy whole did =
    let beside : Told World = record { world = world_of now n; log = n.log } in
    let run : IsRun (m (world_of own told)) told.log (Err e) beside = subst (λ (b : Bool). MatchBool b (IsCutOff (m (world_of own told)) told.log beside) (IsRun (m (world_of own told)) told.log (Err e) beside)) whole did in
    subst IsHealthy (sym run.world) healthy

pub told_healthy : {K A X : Type 0} (moment : K → Moment Store) (view : X → A) (m : World → Run World A) (own now : SessionState) (old new : K) (told : Told Store) (result : Result X Refusal) → (moment old).told ≡ Some told → IsHealthy (m (world_of own told)).after
    → IfErr result (λ e. ends_early e ≡ false) → IsSessionCall moment view m (own, old) result (now, new) → IfSome (moment new).told (λ t. IsHealthy (world_of now t))
unfolding moment_beside
told_healthy moment view m own now old new told result is healthy whole call =
    ran view m own now told result (moment new).told healthy whole
    (subst (λ (t : Option (Told Store)). AsTold view m (told_beside own t) result (told_beside now (moment new).told)) is (parts call.step).told)
