-- What a keeper tells after a line is what the line's program leaves.
use Rattle.std.proofs.Common.{◌≡◌, Bool, false, Option, None, Some, MatchBool, Result, Ok, Err, IfErr, sym, subst}
use Rattle.base_core.specs.declared.refusal.Refusal.{Refusal}
use Rattle.class_types.specs.Rules.{Rules}
use Rattle.keeper_core.specs.Beside.{moment_beside, told_beside}
use Rattle.keeper_core.specs.Moment.{AsTold, IsCutOff, IsRun, Moment, Outcome, Runs, Told, parts}
use Rattle.keeper_core.specs.Programs.{Log, Run, ends_early}
use Rattle.keeper_core.specs.Store.{Store}
use Rattle.session_calls.specs.Parts.{World}
use Rattle.session_laws.specs.Flushes.{world_of}
use Rattle.session_scopes.specs.SessionState.{SessionState}
use Rattle.command_resolve.specs.declared.answer.Answer.{Answer}
use Rattle.command_resolve.specs.declared.resolved.Resolved.{Resolved}
use Rattle.session_perform.specs.Performing.{IsReady, program_of_resolved}
use Rattle.session_laws.specs.Whole.{IsHale}
use Rattle.script_laws.specs.Lines.{IsHaleBeside, LinesKeepWhole}

world_then : {A : Type 0} (run : Run World A) (before : Log) (r : Result A Refusal) (now : Told World) → IfErr r (λ e. ends_early e ≡ false) → Outcome (λ a. a) run before r now → now.world ≡ run.after
world_then run before (Ok x) now own did = did.world
world_then run before (Err e) now own did = (subst (λ (b : Bool). MatchBool b (IsCutOff run before now) (IsRun run before (Err e) now)) own did).world

hale_then : (law : LinesKeepWhole) (rules : Rules) (line : Resolved) (own now : SessionState) (old new : Option (Told Store)) (r : Result Answer Refusal) → IsReady own line → IsHaleBeside own old → IfErr r (λ e. ends_early e ≡ false)
    → AsTold (λ a. a) (program_of_resolved rules line) (told_beside own old) r (told_beside now new) → IsHaleBeside now new
hale_then law rules line own now None new r ready hale early did = absurd hale
hale_then law rules line own now (Some told) None r ready hale early did = absurd did
hale_then law rules line own now (Some told) (Some after) r ready hale early did =
    let run : Run World Answer = program_of_resolved rules line (world_of own told) in
    subst IsHale (sym (world_then run told.log r (record { world = world_of now after; log = after.log }) early did)) (law rules line (world_of own told) hale ready)

-- the session is whole beside what a keeper tells after a line that it was asked of
pub told_hale : {K : Type 0} (moment : K → Moment Store) (law : LinesKeepWhole) (rules : Rules) (line : Resolved) (own now : SessionState) (old new : K) (r : Result Answer Refusal) → IsReady own line → IsHaleBeside own (moment old).told
    → IfErr r (λ e. ends_early e ≡ false) → Runs (moment_beside moment) (λ a. a) (program_of_resolved rules line) (own, old) r (now, new) → IsHaleBeside now (moment new).told
unfolding moment_beside
told_hale moment law rules line own now old new r ready hale early runs = hale_then law rules line own now (moment old).told (moment new).told r ready hale early (parts runs).told
