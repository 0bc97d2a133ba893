-- The stage of a shell becomes another, or is refused.
use Rattle.std.proofs.Common.{◌≡◌, ℕ, List, [], Result, Ok, Err, IsErrAnd, refl, sym, ap, ◌∙◌, subst}
use Rattle.base_core.specs.declared.refusal.Refusal.{Refusal}
use Rattle.base_core.specs.declared.refusal.Refusal.TheVariants.{Memory}
use Rattle.keeper_core.specs.Store.{Store}
use Rattle.keeper_core.specs.Programs.{give}
use Rattle.keeper_core.specs.Moment.{Moment, Runs}
use Rattle.keeper_core.specs.Beside.{moment_beside, on_own}
use Rattle.keeper_core.specs.Alone.{Turned, Turns, alone}
use Rattle.keeper_core.proofs.AloneLemmas.{alone_lost, beside_alone, becomes_err, becomes_ok}
use Rattle.keeper_core.proofs.Sequence.{done, then_err, then_ok}
use Rattle.shell_stage.specs.declared.stage.Stage.{Stage}
use Rattle.shell_stage.specs.Calls.{IsStageTurn}
use Rattle.shell_stage.specs.Stages.{IsReady}
use Rattle.shell_steps.specs.Calls.{IsShellCall}
use Rattle.shell_steps.specs.ShellState.{ShellState, StaysReady}
use Rattle.shell_steps.specs.Step.{at_stage, at_stage_of, goes, turn}

-- ---- the stage in the shell

-- the stage became another, or was refused
goes_turned : (step : Stage → Result Stage Refusal) {own after : ShellState} {stage : Stage} {r : Result (Unit {0}) Refusal}
    → after ≡ at_stage own stage → Turns (step own.stage) own.stage r stage → Runs alone (λ (u : Unit {0}). u) (goes step) own r after
unfolding goes
goes_turned step {own = own} {r = Ok u} is (Turned p) = becomes_ok (λ shell. at_stage_of shell (step shell.stage)) (ap (at_stage_of own) p ∙ ap Ok (sym is))
goes_turned step {r = Err Memory} is (Turned p) = alone_lost
goes_turned step {own = own} {after = after} {stage = stage} {r = Err e} is (Turned p) =
    subst (λ (s : ShellState). Runs alone (λ (u : Unit {0}). u) (goes step) own (Err e) s) (sym (is ∙ ap (at_stage own) p.1))
    (becomes_err (λ shell. at_stage_of shell (step shell.stage)) p.2.0 p.2.1 (ap (at_stage_of own) p.0))

goes_on : {K : Type 0} (moment : K → Moment Store) (step : Stage → Result Stage Refusal) {own after : ShellState} {r : Result (Unit {0}) Refusal} {keeper : K}
    → after ≡ at_stage own after.stage → IsStageTurn step own.stage r after.stage → Runs (moment_beside moment) (λ (u : Unit {0}). u) (on_own (goes step)) (own, keeper) r (after, keeper)
goes_on moment step is p = beside_alone moment (goes_turned step is p.step)

pub stays : {A : Type 0} (r : Result A Refusal) (stage : Stage) (moment : Moment Store) → IsReady stage moment → StaysReady r stage moment
stays (Ok x) stage moment ready = ready
stays (Err e) stage moment ready = λ own. ready

turned : {K : Type 0} (moment : K → Moment Store) (step : Stage → Result Stage Refusal) (own : ShellState) (stage : Stage) (keeper : K) (reply : List ℕ)
    → IsStageTurn {X = Unit {0}} step own.stage (Ok tt) stage → reply ≡ [] → IsReady own.stage (moment keeper) → IsShellCall moment (turn step) (own, keeper) (Ok reply) (record own { stage = stage }, keeper)
unfolding turn
turned moment step own stage keeper reply p none ready = record {
  step = then_ok (λ u. give []) (goes_on moment step refl p) (done (sym none));
  ready = p.kept.ready (moment keeper) ready;
}

-- the stage has turned, and nothing is told
pub turns : {K : Type 0} (moment : K → Moment Store) (step : Stage → Result Stage Refusal) (inside own : ShellState) (stage : Stage) (keeper : K) (reply : List ℕ) → inside ≡ own
    → IsStageTurn {X = Unit {0}} step inside.stage (Ok tt) stage → reply ≡ [] → IsReady own.stage (moment keeper) → IsShellCall moment (turn step) (own, keeper) (Ok reply) (record inside { stage = stage }, keeper)
turns moment step inside own stage keeper reply here p none ready =
    subst (λ (s : ShellState). IsShellCall moment (turn step) (s, keeper) (Ok reply) (record inside { stage = stage }, keeper)) here
    (turned moment step inside stage keeper reply p none (subst (λ (s : ShellState). IsReady s.stage (moment keeper)) (sym here) ready))

turned_not : {K : Type 0} (moment : K → Moment Store) (step : Stage → Result Stage Refusal) (own : ShellState) (stage : Stage) (keeper : K) (e : Refusal)
    → IsStageTurn {X = Unit {0}} step own.stage (Err e) stage → IsReady own.stage (moment keeper) → IsShellCall moment (turn step) (own, keeper) (Err e) (record own { stage = stage }, keeper)
unfolding turn
turned_not moment step own stage keeper e p ready = record {
  step = then_err (λ u. give []) (goes_on moment step refl p);
  ready = λ early. p.kept.ready (moment keeper) ready;
}

-- it was refused
pub turns_not : {K : Type 0} (moment : K → Moment Store) (step : Stage → Result Stage Refusal) (inside own : ShellState) (stage : Stage) (keeper : K) (e : Refusal) (r : Result (List ℕ) Refusal) → IsErrAnd r (λ d. d ≡ e) → inside ≡ own
    → IsStageTurn {X = Unit {0}} step inside.stage (Err e) stage → IsReady own.stage (moment keeper) → IsShellCall moment (turn step) (own, keeper) r (record inside { stage = stage }, keeper)
turns_not moment step inside own stage keeper e (Ok reply) same here p ready = absurd same
turns_not moment step inside own stage keeper e (Err d) same here p ready =
    subst (λ (c : Refusal). IsShellCall moment (turn step) (own, keeper) (Err c) (record inside { stage = stage }, keeper)) (sym same)
    (subst (λ (s : ShellState). IsShellCall moment (turn step) (s, keeper) (Err e) (record inside { stage = stage }, keeper)) here
    (turned_not moment step inside stage keeper e p (subst (λ (s : ShellState). IsReady s.stage (moment keeper)) (sym here) ready)))
