-- Replies to refused lines, the reply at a script's end, and the closing of the session.
use Rattle.std.proofs.Common.{◌≡◌, ℕ, true, false, List, [], ◌++◌, length, None, Some, Result, Ok, Err, IfErr, IfOk, IsErrAnd, OnOk, refl, sym, ap, ◌∙◌, subst}
use Rattle.std.specs.declared.alloc.AllocError.{AllocError}
use Rattle.base_core.specs.declared.refusal.Refusal.{Refusal}
use Rattle.base_core.specs.declared.refusal.Refusal.TheVariants.{Memory, ScriptError}
use Rattle.class_mapping.specs.Mapped.{Mapped}
use Rattle.class_types.specs.Rules.{Rules}
use Rattle.keeper_core.specs.Store.{Store}
use Rattle.keeper_core.specs.Programs.{as_refusal, ask, ends_early, give, quiet}
use Rattle.keeper_core.specs.Moment.{Moment, Ran, Runs}
use Rattle.keeper_core.specs.Beside.{by_own, moment_answering, moment_beside, on_own}
use Rattle.keeper_core.specs.Alone.{alone}
use Rattle.keeper_core.proofs.AloneLemmas.{alone_lost, alone_ok, alone_same, answering_alone, asked_ok, change_ok}
use Rattle.keeper_core.proofs.Lifting.{same_beside}
use Rattle.keeper_core.proofs.Recovering.{answering_ends, caught_early, caught_ok, caught_refused}
use Rattle.keeper_core.proofs.Sequence.{done as given, then_err, then_ok}
use Rattle.savepoints.specs.declared.scope.Scope.{Scope}
use Rattle.session_scopes.specs.SessionState.{SessionState}
use Rattle.session_calls.specs.Calling.{IsSessionCall}
use Rattle.session_calls.specs.Steps as session
use Rattle.shell_parts.specs.declared.block.Block.{Block}
use Rattle.shell_stage.specs.declared.stage.Stage.{Stage}
use Rattle.shell_stage.specs.declared.stage.Stage.TheVariants.{Declaring, Configured}
use Rattle.shell_stage.specs.Stages.{IsKept, IsReady}
use Rattle.shell_stage.specs.Step.{notes_at, without_notes}
use Rattle.shell_steps.specs.Calls.{IsShellCallAlone}
use Rattle.shell_steps.specs.ShellState.{ShellState}
use Rattle.shell_steps.specs.Step.{answer_to, at_stage, close_session, close_session_at, close_stage, end_of_script, end_of_script_in, end_reply, error_text, in_session, line_step, notes_told, reply_to, shell_refused, tell, tell_here, tell_notes, with_session}
use Rattle.shell_steps.proofs.Commands.{session_runs}

-- ---- replies

-- a refusal was told
pub told_text : (number : ℕ) (e : Refusal) {own now : ShellState} {reply : List ℕ} → now ≡ shell_refused own → reply ≡ error_text number e now → IsShellCallAlone (tell number e) own (Ok reply) now
unfolding tell
told_text number e {own = own} {now = now} is text = record {
  step = then_ok (λ _. ask (λ shell. Ok (error_text number e shell))) {x = tt} (change_ok {X = Unit {0}} shell_refused is) (asked_ok {v = λ (reply : List ℕ). reply} (λ shell. Ok (error_text number e shell)) (ap Ok (sym text)));
  stage = ap (λ (s : ShellState). s.stage) is;
}

-- no block was opened at the end
pub ended_none : {own : ShellState} {reply : List ℕ} → own.desk.block ≡ None → reply ≡ [] → IsShellCallAlone end_of_script own (Ok reply) own
unfolding end_of_script
ended_none {own = own} {reply = reply} none is = record {
  step = alone_same (give []) end_of_script (sym (ap (λ block. end_of_script_in block own) none)) (given {v = λ (text : List ℕ). text} (sym is));
  stage = refl;
}

-- a block was opened at the end
pub ended_some : (own now : ShellState) (block : Block) (r : Result (List ℕ) AllocError) → own.desk.block ≡ Some block → IfOk r (λ (reply : List ℕ). IsShellCallAlone (tell block.first (ScriptError block.first 1)) own (Ok reply) now)
    → IfOk r (λ (reply : List ℕ). IsShellCallAlone end_of_script own (Ok reply) now)
unfolding end_of_script
ended_some own now block (Ok reply) some p = record {
  step = alone_same (tell block.first (ScriptError block.first 1)) end_of_script (sym (ap (λ block. end_of_script_in block own) some)) p.step;
  stage = p.stage;
}
ended_some own now block (Err e) some p = tt

pub ruleset telling = (told_text, ended_none, ended_some)

-- the end was answered, or memory ran out
pub end_told : {K : Type 0} (moment : K → Moment Store) {own now : ShellState} {keeper : K} (r : Result (List ℕ) AllocError) → IfOk r (λ (reply : List ℕ). IsShellCallAlone end_of_script own (Ok reply) now)
    → Runs (moment_answering moment) (λ (reply : List ℕ). reply) end_reply (own, keeper) (as_refusal (λ (e : AllocError). Memory) r) (now, keeper)
unfolding end_reply
end_told moment (Ok reply) ended = answering_alone moment ended.step
end_told moment (Err e) ended = answering_alone moment alone_lost

-- a run for which memory ran out is ended early
pub early_memory : {X : Type 0} (r : Result X Refusal) → IsErrAnd r (λ d. d ≡ Memory) → IfErr r (λ e. ends_early e ≡ true)
early_memory (Ok x) is = absurd is
early_memory (Err e) is = ap ends_early is

told_here : {X : Type 0} {v : X → List ℕ} (e : Refusal) {own now : ShellState} {r : Result X Refusal} → Runs alone v (tell own.desk.line e) own r now → Runs alone v (tell_here e) own r now
unfolding alone
told_here e (Ran p) = Ran (record { told = p.told; keeps = p.keeps })

pub answer_ok : {K X Y : Type 0} (moment : K → Moment Store) {v : X → List ℕ} {v' : Y → List ℕ} (rules : Rules) (bytes : List ℕ) {old new : ShellState × K} {x : X} {y : Y}
    → v x ≡ v' y → Runs (moment_beside moment) v (line_step rules bytes) old (Ok x) new → Runs (moment_answering moment) v' (answer_to rules bytes) old (Ok y) new
unfolding answer_to
answer_ok moment rules bytes same p = caught_ok moment (λ e. on_own (tell_here e)) same p

pub answer_early : {K X Y : Type 0} (moment : K → Moment Store) {v : X → List ℕ} {v' : Y → List ℕ} (rules : Rules) (bytes : List ℕ) {old new : ShellState × K} {e : Refusal}
    → ends_early e ≡ true → Runs (moment_beside moment) v (line_step rules bytes) old (Err e) new → Runs (moment_answering moment) v' (answer_to rules bytes) old (Err e) new
unfolding answer_to
answer_early moment rules bytes {e = e} early p = caught_early moment (λ e. on_own (tell_here e)) early p

pub answer_refused : {K X Y : Type 0} (moment : K → Moment Store) {v : X → List ℕ} {v' : Y → List ℕ} (rules : Rules) (bytes : List ℕ) {own mid now : ShellState} {old new : K} {number : ℕ} {e : Refusal} {r : Result Y Refusal}
    → ends_early e ≡ false → number ≡ mid.desk.line → Runs (moment_beside moment) v (line_step rules bytes) (own, old) (Err e) (mid, new) → Runs alone v' (tell number e) mid r now
    → Runs (moment_answering moment) v' (answer_to rules bytes) (own, old) r (now, new)
unfolding answer_to
answer_refused moment {v' = v'} rules bytes {mid = mid} {now = now} {e = e} {r = r} early is p q =
    caught_refused moment (λ e. on_own (tell_here e)) early p (answering_alone moment (told_here e (subst (λ (n : ℕ). Runs alone v' (tell n e) mid r now) is q)))

pub ruleset answers = (answer_ok, answer_early, answer_refused)

-- ---- what a line did

-- what the line did was told before its reply, and forgotten
pub notes_told_view : (reply told : List ℕ) (inside own : ShellState) (stage : Stage) → inside ≡ own → told ≡ notes_told own ++ reply → stage ≡ without_notes inside.stage → Runs alone (λ (text : List ℕ). text) (tell_notes reply) own (Ok told) (record inside { stage = stage })
unfolding tell_notes
notes_told_view reply told inside own stage here is next =
    alone_ok {v = λ (text : List ℕ). text} (tell_notes reply)
    (ap (λ (text : List ℕ). quiet (Ok text) (at_stage own (without_notes own.stage))) (sym is)
    ∙ ap (λ (s : ShellState). quiet (Ok told) (at_stage s (without_notes s.stage))) (sym here)
    ∙ ap (λ (s : Stage). quiet (Ok told) (at_stage inside s)) (sym next))

pub notes_kept_view : (inside own : ShellState) (stage : Stage) → inside ≡ own → IsKept inside.stage stage → IsKept own.stage stage
notes_kept_view inside own stage here kept = subst (λ (s : ShellState). IsKept s.stage stage) here kept

pub with_notes_view : (inside own : ShellState) (line : ℕ) (first mid last reply : List ℕ)
    → inside ≡ own → first ≡ [] → line ≡ inside.desk.line → mid ≡ first ++ notes_at inside.options line inside.stage → last ≡ mid ++ reply → last ≡ notes_told own ++ reply
with_notes_view inside own line first mid last reply here none number notes is =
    is ∙ ap (λ (text : List ℕ). text ++ reply) (notes ∙ ap (λ (text : List ℕ). text ++ notes_at inside.options line inside.stage) none ∙ ap (λ (n : ℕ). notes_at inside.options n inside.stage) number)
    ∙ ap (λ (s : ShellState). notes_told s ++ reply) here

-- the line was done, and what it did was told
pub noted_ok : {K : Type 0} (moment : K → Moment Store) (rules : Rules) (bytes : List ℕ) {own mid now : ShellState} {old new : K} {reply : List ℕ} {r : Result (List ℕ) Refusal}
    → Runs (moment_answering moment) (λ (text : List ℕ). text) (answer_to rules bytes) (own, old) (Ok reply) (mid, new) → Runs alone (λ (text : List ℕ). text) (tell_notes reply) mid r now
    → Runs (moment_answering moment) (λ (text : List ℕ). text) (reply_to rules bytes) (own, old) r (now, new)
unfolding reply_to
noted_ok moment rules bytes p q = then_ok (λ reply. on_own (tell_notes reply)) p (answering_alone moment q)

-- the line was stopped
pub noted_err : {K : Type 0} (moment : K → Moment Store) (rules : Rules) (bytes : List ℕ) {old new : ShellState × K} {e : Refusal}
    → Runs {X = List ℕ} (moment_answering moment) (λ text. text) (answer_to rules bytes) old (Err e) new → Runs {X = List ℕ} (moment_answering moment) (λ text. text) (reply_to rules bytes) old (Err e) new
unfolding reply_to
noted_err moment rules bytes p = then_err (λ reply. on_own (tell_notes reply)) p

pub noted_ready : {K : Type 0} (moment : K → Moment Store) {old new : Stage} (r : Result (List ℕ) Refusal) (keeper : K) → IsKept old new → IsReady old (moment keeper) → OnOk r (IsReady new (moment keeper))
noted_ready moment {new = new} r keeper kept ready = by r (kept.ready (moment keeper) ready)
  where
    by : (r : Result (List ℕ) Refusal) → IsReady new (moment keeper) → OnOk r (IsReady new (moment keeper))
    by (Ok text) now = now
    by (Err e) now = tt

-- the session was closed, and that was told
pub closed_ok : {K : Type 0} (moment : K → Moment Store) {own mid now : ShellState} {old new : K} {reply : List ℕ} {r : Result (List ℕ) Refusal} → reply ≡ []
    → Runs {X = Unit {0}} (moment_answering moment) (λ u. u) close_stage (own, old) (Ok tt) (mid, new) → Runs alone (λ (text : List ℕ). text) (tell_notes reply) mid r now
    → Runs (moment_answering moment) (λ (text : List ℕ). text) close_session (own, old) r (now, new)
unfolding close_session
closed_ok moment {mid = mid} {now = now} {r = r} none p q =
    then_ok (λ u. on_own (tell_notes [])) p (answering_alone moment (subst (λ (text : List ℕ). Runs alone (λ (text : List ℕ). text) (tell_notes text) mid r now) none q))

-- it was stopped
pub closed_err : {K : Type 0} (moment : K → Moment Store) {old new : ShellState × K} {e : Refusal}
    → Runs {X = Unit {0}} (moment_answering moment) (λ u. u) close_stage old (Err e) new → Runs {X = List ℕ} (moment_answering moment) (λ text. text) close_session old (Err e) new
unfolding close_session
closed_err moment p = then_err (λ u. on_own (tell_notes [])) p

pub ruleset noting = (noted_ok, noted_err, noted_ready, closed_ok, closed_err)

-- ---- the end

closing_same : (own : ShellState) (state : SessionState) → own.stage ≡ Configured state → (store : Store)
    → in_session session.close (record { own = own; store = store }) ≡ close_stage (record { own = own; store = store })
unfolding close_stage by_own
closing_same own state opened store = sym (ap (λ stage. close_session_at stage (record { own = own; store = store })) opened)

-- the session is closed
pub closes_open : {K : Type 0} (moment : K → Moment Store) {own after : ShellState} {state now : SessionState} {old new : K} {r : Result (Unit {0}) Refusal}
    → own.stage ≡ Configured state → after ≡ with_session own now → IfErr r (λ e. ends_early e ≡ true) → IsSessionCall moment (λ u. u) session.close (state, old) r (now, new)
    → Runs (moment_answering moment) (λ u. u) close_stage (own, old) r (after, new)
closes_open moment {own = own} {state = state} opened is early p =
    answering_ends moment early (same_beside moment (in_session session.close) close_stage (closing_same own state opened) (session_runs moment session.close opened is p.step))

-- there is no session
pub closes_none : {K : Type 0} (moment : K → Moment Store) {own : ShellState} {mapping : Mapped} {keeper : K}
    → own.stage ≡ Declaring mapping → Runs (moment_answering moment) (λ u. u) close_stage (own, keeper) (Ok tt) (own, keeper)
unfolding close_stage by_own
closes_none moment {own = own} closed =
    answering_ends moment {r = Ok tt} tt (same_beside moment (give tt) close_stage (λ store. sym (ap (λ stage. close_session_at stage (record { own = own; store = store })) closed)) (given refl))

closed_depth : {K : Type 0} (moment : K → Moment Store) (r : Result (Unit {0}) Refusal) {own now : SessionState} {old new : K} → OnOk r (now.frames.scopes ≡ []) → IsSessionCall moment (λ u. u) session.close (own, old) r (now, new) → OnOk r ((moment new).depth ≡ 0)
closed_depth moment (Ok u) none p = p.kept.in_step.1 ∙ ap (λ (scopes : List Scope). length scopes) none
closed_depth moment (Err e) none p = tt

-- no scope is open then
pub closes_outside : {K : Type 0} (moment : K → Moment Store) {r : Result (Unit {0}) Refusal} {own now : SessionState} {old new : K} → OnOk r (now.frames.scopes ≡ []) → IsSessionCall moment (λ u. u) session.close (own, old) r (now, new) → OnOk r ((moment new).depth ≡ 0)
closes_outside moment {r = r} none p = closed_depth moment r none p

none_open : (stage : Stage) (mapping : Mapped) (moment : Moment Store) → stage ≡ Declaring mapping → IsReady stage moment → moment.depth ≡ 0
none_open stage mapping moment is ready = (subst (λ (s : Stage). IsReady s moment) is ready).1

pub closes_nothing : {K : Type 0} (moment : K → Moment Store) {stage : Stage} {mapping : Mapped} (keeper : K) → stage ≡ Declaring mapping → IsReady stage (moment keeper) → (moment keeper).depth ≡ 0
closes_nothing moment {stage = stage} {mapping = mapping} keeper is ready = none_open stage mapping (moment keeper) is ready

pub ruleset closes = (closes_open, closes_none, closes_outside, closes_nothing)
