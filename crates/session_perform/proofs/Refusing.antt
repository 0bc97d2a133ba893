-- Why lines are refused, put together of the refusals of the calls that they make.
use Rattle.std.proofs.Common.{◌≡◌, None, Option, Result, Ok, Err, IfErr, OnErr, refl, sym, ap, subst}
use Rattle.base_core.specs.declared.refusal.Refusal.{Refusal}
use Rattle.base_core.specs.declared.refusal.Refusal.TheVariants.{Memory}
use Rattle.class_types.specs.Rules.{Rules}
use Rattle.keeper_core.specs.Alone.{IsQuiet}
use Rattle.keeper_core.specs.Store.{Store}
use Rattle.keeper_core.specs.Programs.{Run, ends_early}
use Rattle.keeper_core.specs.Moment.{Moment}
use Rattle.session_scopes.specs.SessionState.{SessionState}
use Rattle.session_calls.specs.Refusals.{Before, Early, IsRefused, fault_in}
use Rattle.session_acts.specs.Refusals.{Asked}
use Rattle.session_loads.specs.Refusals.{IsRefusedLoading, Refusing, Unflushed}
use Rattle.command_resolve.specs.declared.answer.Answer.{Answer}
use Rattle.command_resolve.specs.declared.resolved.Resolved.{Resolved}
use Rattle.session_perform.specs.Performing.{nothing_told}
use Rattle.session_perform.specs.Refused.{IsRefusedLine}

-- a case of a line
pub why_case : (rules : Rules) (line other : Resolved) (old new : SessionState) (was now : Moment Store) (r : Result Answer Refusal) → line ≡ other → IfErr r (λ e. IsRefusedLine rules other old was e new now) → IfErr r (λ e. IsRefusedLine rules line old was e new now)
why_case rules line other old new was now r is why = subst (λ (l : Resolved). IfErr r (λ e. IsRefusedLine rules l old was e new now)) (sym is) why

-- the same of a call of which nothing is told
pub told_case : (rules : Rules) (line other : Resolved) (old new : SessionState) (was now : Moment Store) (r : Result (Unit {0}) Refusal) (a : Result Answer Refusal) → line ≡ other → a ≡ nothing_told r
    → IfErr r (λ e. IsRefusedLine rules other old was e new now) → IfErr a (λ e. IsRefusedLine rules line old was e new now)
told_case rules line other old new was now r a is told why =
    why_case rules line other old new was now a is (subst (λ (b : Result Answer Refusal). IfErr b (λ e. IsRefusedLine rules other old was e new now)) (sym told) (by r why))
  where
    by : (q : Result (Unit {0}) Refusal) → IfErr q (λ e. IsRefusedLine rules other old was e new now) → IfErr (nothing_told q) (λ e. IsRefusedLine rules other old was e new now)
    by (Ok u) h = tt
    by (Err e) h = h

-- what the session does alone is refused with what it answers
pub made_refused : {X : Type 0} (run : Run SessionState X) (old now : SessionState) (r : Result X Refusal) → IsQuiet (λ (x : X). x) run r now → OnErr r (now ≡ old) → IfErr r (λ e. IsRefused (fault_in run.answer) None old e now)
made_refused run old now (Ok x) quiet same = tt
made_refused run old now (Err Memory) quiet same = Early refl
made_refused {X = X} run old now (Err e) quiet same = Before (ap (λ (told : Run SessionState X). fault_in told.answer) quiet.0) same

-- there was no memory for what is told of rows that were read
pub full_reading : {X : Type 0} (before inside : Option Refusal) (again : SessionState → Option Refusal) (Then : Refusing) (old new : SessionState) (was now : Moment Store) (r : Result X Refusal) → IfErr r (λ e. e ≡ Memory)
    → IfErr r (λ e. IsRefusedLoading before inside again Then old was e new now)
full_reading before inside again Then old new was now (Ok x) cause = tt
full_reading before inside again Then old new was now (Err e) cause = Unflushed (Asked (Early (ap ends_early cause)))
