-- Commands of the session: performed, and told.
use Rattle.std.proofs.Common.{◌≡◌, ℕ, length, Bool, true, false, List, Option, None, Some, Result, Ok, Err, IfOk, MatchBool, refl, sym, ap, ◌∙◌, subst}
use Rattle.base_core.specs.declared.refusal.Refusal.{Refusal}
use Rattle.base_core.specs.declared.refusal.Refusal.TheVariants.{InvalidRequestError, Memory}
use Rattle.base_core.specs.declared.refusal.RequestKind.TheVariants.{NotConfigured}
use Rattle.class_mapping.specs.Mapped.{Mapped}
use Rattle.class_types.specs.Rules.{Rules}
use Rattle.keeper_core.specs.Store.{Store}
use Rattle.keeper_core.specs.Programs.{Run, ends_early, quiet, refuse}
use Rattle.keeper_core.specs.Moment.{AsTold, IsCutOff, IsRun, Moment, Outcome, Ran, Runs, Told}
use Rattle.keeper_core.specs.Beside.{Beside, moment_beside, on_own, told_beside}
use Rattle.keeper_core.proofs.AloneLemmas.{alone_lost, alone_ok, beside_alone}
use Rattle.keeper_core.proofs.Lifting.{chosen, same_beside}
use Rattle.keeper_core.proofs.Sequence.{refused, then_err, then_ok}
use Rattle.script_types.specs.declared.command.Command.{Command}
use Rattle.base_core.specs.declared.dialect.Dialect.{Dialect}
use Rattle.session_parts.specs.Depths.{StaysAt}
use Rattle.session_scopes.specs.SessionState.{SessionState}
use Rattle.command_resolve.specs.declared.answer.Answer.{Answer}
use Rattle.command_resolve.specs.Standing.{IsAnswer}
use Rattle.command_names.specs.Terms.{Bindings}
use Rattle.shell_replies.specs.Answers.{answer_text}
use Rattle.command_resolve.specs.declared.answer.Answer.TheVariants as answer
use Rattle.shell_stage.specs.declared.stage.Stage.{Stage}
use Rattle.shell_stage.specs.declared.stage.Stage.TheVariants.{Declaring, Configured}
use Rattle.shell_stage.specs.Calls.{IsCommandCall}
use Rattle.shell_stage.specs.Stages.{IsAnswerAt, IsReady, mapping_of}
use Rattle.shell_stage.specs.Step.{performed, names_with}
use Rattle.shell_steps.specs.Calls.{IsShellCall, IsShellCallAlone}
use Rattle.shell_steps.specs.ShellState.{ShellState, StaysReady}
use Rattle.shell_steps.specs.Step.{World, do_command, in_session, perform, run_at, session_run, tell_answer, with_answer, with_session}

-- ---- the session in the shell

told_in_session : {A X : Type 0} (v : X → A) (m : Beside SessionState → Run (Beside SessionState) A) (own : ShellState) (session now : SessionState) (old new : Option (Told Store)) (r : Result X Refusal)
    → own.stage ≡ Configured session → AsTold v m (told_beside session old) r (told_beside now new) → AsTold v (in_session m) (told_beside own old) r (told_beside (with_session own now) new)
unfolding in_session
told_in_session v m own session now None new r opened p = tt
told_in_session v m own session now (Some t) None r opened p = p
told_in_session {X = X} v m own session now (Some t) (Some n) r opened p =
    let run = m (record { own = session; store = t.world }) in
    let later : Told World = record { world = record { own = with_session own now; store = n.world }; log = n.log } in
    subst (λ run. Outcome v run t.log r later) (sym (ap (λ stage. run_at stage m (record { own = own; store = t.world })) opened)) (by r p)
  where
    by : (r : Result X Refusal)
        → Outcome v (m (record { own = session; store = t.world })) t.log r (record { world = record { own = now; store = n.world }; log = n.log })
        → Outcome v (session_run own (m (record { own = session; store = t.world }))) t.log r (record { world = record { own = with_session own now; store = n.world }; log = n.log })
    by (Ok x) q = record { answer = q.answer; world = ap (λ w. record { own = with_session own w.own; store = w.store }) q.world; log = q.log }
    by (Err e) q = stops (ends_early e) q
      where
        stops : (b : Bool)
            → MatchBool b (IsCutOff (m (record { own = session; store = t.world })) t.log (record { world = record { own = now; store = n.world }; log = n.log }))
            (IsRun (m (record { own = session; store = t.world })) t.log (Err e) (record { world = record { own = now; store = n.world }; log = n.log }))
            → MatchBool b (IsCutOff (session_run own (m (record { own = session; store = t.world }))) t.log (record { world = record { own = with_session own now; store = n.world }; log = n.log }))
            (IsRun (session_run own (m (record { own = session; store = t.world }))) t.log (Err e) (record { world = record { own = with_session own now; store = n.world }; log = n.log }))
        stops true q = record { prefix = q.prefix; rest = q.rest; events = q.events; log = q.log }
        stops false q = record { answer = q.answer; world = ap (λ w. record { own = with_session own w.own; store = w.store }) q.world; log = q.log }

-- a call of the session
pub session_runs : {K A X : Type 0} (moment : K → Moment Store) {v : X → A} (m : Beside SessionState → Run (Beside SessionState) A) {own after : ShellState} {session now : SessionState} {old new : K} {r : Result X Refusal}
    → own.stage ≡ Configured session → after ≡ with_session own now → Runs (moment_beside moment) v m (session, old) r (now, new) → Runs (moment_beside moment) v (in_session m) (own, old) r (after, new)
unfolding moment_beside
session_runs moment {v = v} m {own = own} {after = after} {session = session} {now = now} {old = old} {new = new} {r = r} opened is (Ran p) =
    subst (λ (s : ShellState). Runs (moment_beside moment) v (in_session m) (own, old) r (s, new)) (sym is) (Ran (record {
      told = told_in_session v m own session now (moment old).told (moment new).told r opened p.told;
      keeps = p.keeps;
    }))

-- before there is a session its calls are refused
session_none : {K A X : Type 0} (moment : K → Moment Store) {v : X → A} (m : Beside SessionState → Run (Beside SessionState) A) {own : ShellState} {mapping : Mapped} {keeper : K}
    → own.stage ≡ Declaring mapping → Runs (moment_beside moment) v (in_session m) (own, keeper) (Err (InvalidRequestError NotConfigured)) (own, keeper)
unfolding in_session refuse
session_none moment m {own = own} closed =
    same_beside moment (refuse (InvalidRequestError NotConfigured)) (in_session m) (λ store. sym (ap (λ stage. run_at stage m (record { own = own; store = store })) closed)) (refused refl refl)

-- ---- a command of the session

ready_in : (r : Result Answer Refusal) (stage : Stage) (now : SessionState) (moment : Moment Store) → stage ≡ Configured now → StaysAt r (length now.frames.scopes) moment → StaysReady r stage moment
ready_in (Ok x) stage now moment is p = subst (λ (s : Stage). IsReady s moment) (sym is) p
ready_in (Err e) stage now moment is p = λ early. subst (λ (s : Stage). IsReady s moment) (sym is) (p early)

pub performs : {K : Type 0} (moment : K → Moment Store) (rules : Rules) (command : Command) {own after : ShellState} {session now : SessionState} {old new : K} {r : Result Answer Refusal}
    → own.stage ≡ Configured session → after ≡ with_session own now → IsCommandCall moment (performed rules own.options.dialect own.names command) (session, old) r (now, new) → IsShellCall moment (perform rules command) (own, old) r (after, new)
unfolding perform
performs moment rules command {own = own} {after = after} {now = now} {new = new} {r = r} opened is p = record {
  step = chosen moment (λ shell. in_session (performed rules shell.options.dialect shell.names command)) (session_runs moment (performed rules own.options.dialect own.names command) opened is p.step);
  ready = ready_in r after.stage now (moment new) (ap (λ (s : ShellState). s.stage) is) p.in_step;
}

pub performs_view : {K : Type 0} (moment : K → Moment Store) (rules : Rules) (command : Command) (inside own : ShellState) (session now : SessionState) (old new : K) (r : Result Answer Refusal) → inside ≡ own
    → inside.stage ≡ Configured session → IsCommandCall moment (performed rules inside.options.dialect inside.names command) (session, old) r (now, new) → IsShellCall moment (perform rules command) (own, old) r (with_session inside now, new)
performs_view moment rules command inside own session now old new r here opened p =
    subst (λ (s : ShellState). IsShellCall moment (perform rules command) (s, old) r (with_session inside now, new)) here (performs moment rules command {own = inside} opened refl p)

pub performs_not : {K : Type 0} (moment : K → Moment Store) (rules : Rules) (command : Command) {own : ShellState} {mapping : Mapped} {keeper : K}
    → own.stage ≡ Declaring mapping → IsReady own.stage (moment keeper) → IsShellCall moment (perform rules command) (own, keeper) (Err (InvalidRequestError NotConfigured)) (own, keeper)
unfolding perform
performs_not moment rules command {own = own} closed ready = record {
  step = chosen moment (λ shell. in_session (performed rules shell.options.dialect shell.names command)) (session_none moment (performed rules own.options.dialect own.names command) closed);
  ready = λ early. ready;
}

answer_in : (r : Result Answer Refusal) (stage : Stage) (now : SessionState) → stage ≡ Configured now → IfOk r (IsAnswer now.mapping now.graph now.drawn.drawn) → IfOk r (IsAnswerAt stage)
answer_in (Ok answer) stage now is p = subst (λ (s : Stage). IsAnswerAt s answer) (sym is) p
answer_in (Err e) stage now is p = tt

pub answers_in : {K : Type 0} (moment : K → Moment Store) (rules : Rules) (dialect : Dialect) (names : Bindings) (command : Command) (own after : ShellState) {session now : SessionState} {old new : K} {r : Result Answer Refusal}
    → after ≡ with_session own now → IsCommandCall moment (performed rules dialect names command) (session, old) r (now, new) → IfOk r (IsAnswerAt after.stage)
answers_in moment rules dialect names command own after {now = now} {r = r} is p = answer_in r after.stage now (ap (λ (s : ShellState). s.stage) is) p.answer

pub ruleset performing = (performs, performs_not, answers_in)

-- ---- its answer

tells_answer : (it : Answer) (own : ShellState) (names : Bindings) (reply : List ℕ) → names ≡ names_with it own.names → reply ≡ answer_text (mapping_of own.stage) it → IsShellCallAlone (tell_answer it) own (Ok reply) (record own { names = names })
unfolding tell_answer
tells_answer it own names reply is text = record {
  step = alone_ok {v = λ (text : List ℕ). text} (tell_answer it)
      (ap (λ (t : List ℕ). quiet (Ok t) (with_answer it own)) (sym text) ∙ ap (λ (n : Bindings). quiet (Ok reply) (record own { names = n })) (sym is));
  stage = refl;
}

-- the answer was told, and what is to be bound was bound
pub tells_view : (it : Answer) (inside own : ShellState) (names : Bindings) (reply : List ℕ) → inside ≡ own → names ≡ names_with it inside.names → reply ≡ answer_text (mapping_of inside.stage) it
    → IsShellCallAlone (tell_answer it) own (Ok reply) (record inside { names = names })
tells_view it inside own names reply here is text =
    subst (λ (s : ShellState). IsShellCallAlone (tell_answer it) s (Ok reply) (record inside { names = names })) here (tells_answer it inside names reply is text)

-- memory ran out
pub tells_lost : (it : Answer) (own after : ShellState) → after.stage ≡ own.stage → IsShellCallAlone {A = List ℕ} (tell_answer it) own (Err Memory) after
tells_lost it own after is = record { step = alone_lost; stage = is }

ready_same : (r : Result (List ℕ) Refusal) (old new : Stage) (moment : Moment Store) → new ≡ old → IsReady old moment → StaysReady r new moment
ready_same (Ok x) old new moment is ready = subst (λ (s : Stage). IsReady s moment) (sym is) ready
ready_same (Err e) old new moment is ready = λ early. subst (λ (s : Stage). IsReady s moment) (sym is) ready

-- the command was done and its answer told
pub does_command : {K : Type 0} (moment : K → Moment Store) (rules : Rules) (command : Command) {own mid now : ShellState} {old new : K} {it : Answer} {r : Result (List ℕ) Refusal}
    → IsShellCall moment (perform rules command) (own, old) (Ok it) (mid, new) → IsShellCallAlone (tell_answer it) mid r now → IsShellCall moment (do_command rules command) (own, old) r (now, new)
unfolding do_command
does_command moment rules command {mid = mid} {now = now} {new = new} {it = it} {r = r} p q = record {
  step = then_ok (λ answer. on_own (tell_answer answer)) p.step (beside_alone moment q.step);
  ready = ready_same r mid.stage now.stage (moment new) q.stage p.ready;
}

-- it was refused
pub refuses_command : {K : Type 0} (moment : K → Moment Store) (rules : Rules) (command : Command) {own now : ShellState} {old new : K} {e : Refusal}
    → IsShellCall moment (perform rules command) (own, old) (Err e) (now, new) → IsShellCall moment (do_command rules command) (own, old) (Err e) (now, new)
unfolding do_command
refuses_command moment rules command p = record { step = then_err (λ answer. on_own (tell_answer answer)) p.step; ready = p.ready }

pub ruleset telling = (does_command, refuses_command)
