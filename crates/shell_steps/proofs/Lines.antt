-- A line: what it comes to, and that it is done.
use Rattle.std.proofs.Common.{◌≡◌, ℕ, List, [], Result, Ok, Err, IsErrAnd, refl, sym, ap, subst}
use Rattle.base_core.specs.declared.refusal.Refusal.{Refusal}
use Rattle.base_core.specs.declared.refusal.Refusal.TheVariants.{Memory}
use Rattle.class_types.specs.Rules.{Rules}
use Rattle.keeper_core.specs.Store.{Store}
use Rattle.keeper_core.specs.Programs.{Run}
use Rattle.keeper_core.specs.Moment.{Moment, Runs}
use Rattle.keeper_core.specs.Alone.{IsQuiet, Tells, alone}
use Rattle.keeper_core.specs.Beside.{on_own}
use Rattle.keeper_core.proofs.AloneLemmas.{alone_err, alone_lost, alone_ok, asked_tells, beside_alone, then_own_err, then_own_ok}
use Rattle.keeper_core.proofs.Sequence.{done}
use Rattle.script_types.specs.declared.command.Command.{Command}
use Rattle.shell_lines.specs.declared.desk.Said.{Said}
use Rattle.shell_lines.specs.declared.desk.Said.TheVariants as said
use Rattle.shell_lines.specs.Desk.{DeskState, said_line}
use Rattle.shell_stage.specs.declared.stage.Stage.{Stage}
use Rattle.shell_stage.specs.Asking.{compiled_at}
use Rattle.shell_stage.specs.Stages.{IsReady}
use Rattle.shell_steps.specs.Calls.{IsShellCall, IsShellCallAlone}
use Rattle.shell_steps.specs.ShellState.{ShellState}
use Rattle.shell_steps.specs.Step.{World, at_desk, compile, desk_run, do_said, line_step}
use Rattle.shell_steps.proofs.Turns.{stays}

-- ---- the place where the script stands

desk_moves : {A X : Type 0} {v : X → A} (m : DeskState → Run DeskState A) (own : ShellState) (desk : DeskState) (r : Result X Refusal) → IsQuiet v (m own.desk) r desk → Runs alone v (at_desk m) own r (record own { desk = desk })
unfolding at_desk
desk_moves {v = v} m own desk (Ok x) is = alone_ok {v = v} (at_desk m) (ap (desk_run own) is)
desk_moves m own desk (Err Memory) is = alone_lost
desk_moves {v = v} m own desk (Err e) is = alone_err {v = v} (at_desk m) is.1.0 is.1.1 (ap (desk_run own) is.0)

-- a line came to this
pub says : (bytes : List ℕ) (inside own : ShellState) (desk : DeskState) (r : Result Said Refusal) → inside ≡ own → IsQuiet (λ (said : Said). said) (said_line bytes inside.desk) r desk
    → IsShellCallAlone (at_desk (said_line bytes)) own r (record inside { desk = desk })
says bytes inside own desk r here p =
    subst (λ (s : ShellState). IsShellCallAlone (at_desk (said_line bytes)) s r (record inside { desk = desk })) here
    (record { step = desk_moves (said_line bytes) inside desk r p; stage = refl })

-- ---- a line

ready_at : (old new : Stage) (moment : Moment Store) → new ≡ old → IsReady old moment → IsReady new moment
ready_at old new moment is ready = subst (λ (s : Stage). IsReady s moment) (sym is) ready

pub ready_then : {K : Type 0} (moment : K → Moment Store) {m : ShellState → Run ShellState Said} {own mid : ShellState} {r : Result Said Refusal} (keeper : K) → IsShellCallAlone m own r mid → IsReady own.stage (moment keeper) → IsReady mid.stage (moment keeper)
ready_then moment {own = own} {mid = mid} keeper p ready = ready_at own.stage mid.stage (moment keeper) p.stage ready

-- the line was read, and done
pub steps : {K : Type 0} (moment : K → Moment Store) (rules : Rules) (bytes : List ℕ) {own mid now : ShellState} {old new : K} {said : Said} {r : Result (List ℕ) Refusal}
    → IsShellCallAlone (at_desk (said_line bytes)) own (Ok said) mid → IsShellCall moment (do_said rules said) (mid, old) r (now, new) → IsShellCall moment (line_step rules bytes) (own, old) r (now, new)
unfolding line_step
steps moment rules bytes p q = record { step = then_own_ok moment (do_said rules) p.step q.step; ready = q.ready }

-- it was refused
pub steps_not : {K : Type 0} (moment : K → Moment Store) (rules : Rules) (bytes : List ℕ) {own now : ShellState} {keeper : K} {e : Refusal}
    → IsShellCallAlone (at_desk (said_line bytes)) own (Err e) now → IsReady own.stage (moment keeper) → IsShellCall moment (line_step rules bytes) (own, keeper) (Err e) (now, keeper)
unfolding line_step
steps_not moment rules bytes {own = own} {now = now} {keeper = keeper} p ready = record {
  step = then_own_err moment (do_said rules) p.step;
  ready = λ early. ready_at own.stage now.stage (moment keeper) p.stage ready;
}

-- a refusal of a call as that of the call around it
pub call_as : {A K : Type 0} {moment : K → Moment Store} {m : World → Run World A} {old new : ShellState × K} (e : Refusal) (r : Result A Refusal) → IsErrAnd r (λ d. d ≡ e) → IsShellCall moment m old (Err e) new → IsShellCall moment m old r new
call_as e (Ok x) same p = absurd same
call_as {moment = moment} {m = m} {old = old} {new = new} e (Err d) same p = subst (λ (c : Refusal). IsShellCall moment m old (Err c) new) (sym same) p

pub ruleset stepping = (steps, steps_not, ready_then)

-- ---- what a line comes to

-- the line comes to this
pub acts : {K : Type 0} {moment : K → Moment Store} (rules : Rules) {it other : Said} {old new : ShellState × K} {r : Result (List ℕ) Refusal}
    → it ≡ other → IsShellCall moment (do_said rules other) old r new → IsShellCall moment (do_said rules it) old r new
acts {moment = moment} rules {old = old} {new = new} {r = r} is p = subst (λ (s : Said). IsShellCall moment (do_said rules s) old r new) (sym is) p

pub acts_nothing : {K : Type 0} {moment : K → Moment Store} (rules : Rules) {it : Said} {own : ShellState} {keeper : K} {reply : List ℕ}
    → it ≡ said.Nothing → reply ≡ [] → IsReady own.stage (moment keeper) → IsShellCall moment (do_said rules it) (own, keeper) (Ok reply) (own, keeper)
acts_nothing {moment = moment} rules {own = own} {keeper = keeper} {reply = reply} is none ready =
    acts rules is (record { step = done {v = λ (text : List ℕ). text} (sym none); ready = ready })

pub ruleset acting = (acts, acts_nothing)

-- ---- a line that compiles

-- it was compiled, and nothing else was done
pub compiles : {K : Type 0} (moment : K → Moment Store) (command : Command) (inside own : ShellState) (keeper : K) (r : Result (List ℕ) Refusal)
    → inside ≡ own → Tells (λ (reply : List ℕ). reply) (compiled_at inside.stage command) r → IsReady own.stage (moment keeper) → IsShellCall moment (on_own (compile command)) (own, keeper) r (own, keeper)
unfolding compile
compiles moment command inside own keeper r here p ready = record {
  step = beside_alone moment (asked_tells (λ shell. compiled_at shell.stage command) (subst (λ (s : ShellState). Tells (λ (reply : List ℕ). reply) (compiled_at s.stage command) r) here p));
  ready = stays r own.stage (moment keeper) ready;
}
