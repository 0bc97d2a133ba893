-- What a line asks for: resolved, and performed, or compiled.
use Rattle.std.proofs.Common.{◌≡◌, ℕ, List, Result, Ok, Err, IfErr, IsErrAnd, refl, sym, ap, subst}
use Rattle.base_core.specs.Answers.{Gives}
use Rattle.base_core.specs.declared.refusal.Refusal.{Refusal}
use Rattle.base_core.specs.declared.refusal.Refusal.TheVariants.{CompileError, InvalidRequestError, Memory, NotBuilt, TypeMismatch}
use Rattle.base_core.specs.declared.refusal.RequestKind.{RequestKind}
use Rattle.base_core.specs.declared.refusal.RequestKind.TheVariants.{JoinedLimit, NotConfigured}
use Rattle.class_mapping.specs.Mapped.{Mapped}
use Rattle.class_types.specs.Rules.{Rules}
use Rattle.keeper_core.specs.Store.{Store}
use Rattle.keeper_core.specs.Programs.{ask}
use Rattle.keeper_core.specs.Moment.{Moment, Runs}
use Rattle.keeper_core.specs.Alone.{Tells, alone}
use Rattle.keeper_core.proofs.AloneLemmas.{asked_tells, tells_err, tells_lost as tells_memory_lost, tells_ok, then_own_err, then_own_ok}
use Rattle.script_types.specs.declared.command.Command.{Command}
use Rattle.base_core.specs.declared.dialect.Dialect.{Dialect}
use Rattle.sql_semantics.specs.Checked.{Checked, ◌>>=◌}
use Rattle.statement_lines.specs.CompiledLines.{IsOfCompiling}
use Rattle.statement_lines.proofs.Compiling.{plain_has_cuts}
use Rattle.query_names.specs.Queries.{IsOfQueries}
use Rattle.session_scopes.specs.SessionState.{IsInStep, SessionState}
use Rattle.session_perform.specs.Performing.{IsPerformed, program_of_resolved}
use Rattle.command_resolve.specs.declared.answer.Answer.{Answer}
use Rattle.command_resolve.specs.declared.resolved.Resolved.{Resolved}
use Rattle.command_resolve.specs.Resolving.{resolve}
use Rattle.command_resolve.specs.Standing.{IsOfResolving}
use Rattle.command_names.specs.Terms.{Bindings}
use Rattle.shell_stage.specs.declared.stage.Stage.{Stage}
use Rattle.shell_stage.specs.declared.stage.Stage.TheVariants.{Declaring, Configured}
use Rattle.shell_stage.specs.Asking.{IsOfAsking, asked, compiled_at, compiled_over, has_texts}
use Rattle.shell_stage.specs.Calls.{IsCommandCall}
use Rattle.shell_stage.specs.Step.{performed}
use Rattle.shell_stage.proofs.Bindings.{bound_stays}

-- ---- a line is resolved

-- what may be refused for names, kinds and texts
tells_asked_is : {A X : Type 0} (v : X → A) (told : Result A Refusal) (r : Result X Refusal) → Gives v r told → IfErr r IsOfAsking → Tells v told r
tells_asked_is v told (Ok x) p cause = tells_ok p
tells_asked_is v told (Err Memory) p cause = tells_memory_lost
tells_asked_is v told (Err (InvalidRequestError kind)) p cause = tells_err refl refl p
tells_asked_is v told (Err (TypeMismatch wanted found)) p cause = tells_err refl refl p
tells_asked_is v told (Err (CompileError table column)) p cause = tells_err refl refl p
tells_asked_is v told (Err NotBuilt) p cause = tells_err refl refl p
tells_asked_is v told (Err e) p cause = absurd cause

pub tells_asked : {A X : Type 0} {v : X → A} {told : Result A Refusal} {r : Result X Refusal} → Gives v r told → IfErr r IsOfAsking → Tells v told r
tells_asked {v = v} {told = told} {r = r} p cause = tells_asked_is v told r p cause

pub of_resolving : (e : Refusal) → IsOfResolving e → IsOfAsking e
of_resolving (CompileError table column) cause = tt
of_resolving e cause = cause

of_kind : (kind : RequestKind) → IsOfCompiling (InvalidRequestError kind) → IsOfAsking (InvalidRequestError kind)
of_kind JoinedLimit cause = tt
of_kind kind cause = cause

pub of_texts : (e : Refusal) → IsOfCompiling e → IsOfAsking e
of_texts (InvalidRequestError kind) cause = of_kind kind cause
of_texts (CompileError table column) cause = tt
of_texts NotBuilt cause = tt
of_texts e cause = cause

-- what a query may be refused for
pub of_queries : (e : Refusal) → IsOfQueries e → IsOfAsking e
of_queries (CompileError table column) cause = tt
of_queries NotBuilt cause = tt
of_queries e cause = cause

-- what a line that asks the tables alone may be refused for
pub any_texts : {X : Type 0} (r : Result X Refusal) → IfErr r IsOfCompiling → IfErr r IsOfAsking
any_texts (Ok x) cause = tt
any_texts (Err e) cause = of_texts e cause

abbrev asked_by : Checked (Unit {0}) → Mapped → Bindings → Command → Checked Resolved
asked_by told mapped names command = told >>= λ u. resolve mapped names command

-- the texts were found, and then what the line asks for
pub asks : (dialect : Dialect) (mapped : Mapped) (names : Bindings) (command : Command) (r : Result Resolved Refusal)
    → has_texts dialect mapped.schema command ≡ Ok tt → Gives (λ (line : Resolved). line) r (resolve mapped names command) → Gives (λ (line : Resolved). line) r (asked dialect mapped names command)
asks dialect mapped names command r texts p =
    subst (λ (told : Result Resolved Refusal). Gives (λ (line : Resolved). line) r told) (sym (ap (λ (told : Result (Unit {0}) Refusal). asked_by told mapped names command) texts)) p

asks_err : (dialect : Dialect) (mapped : Mapped) (names : Bindings) (command : Command) (e : Refusal) → Gives {X = Unit {0}} (λ u. u) (Err e) (has_texts dialect mapped.schema command) → Gives {X = Resolved} (λ line. line) (Err e) (asked dialect mapped names command)
asks_err dialect mapped names command Memory p = tt
asks_err dialect mapped names command e p = ap (λ (told : Result (Unit {0}) Refusal). asked_by told mapped names command) p

-- a table has no text
pub asks_not : (dialect : Dialect) (mapped : Mapped) (names : Bindings) (command : Command) (e : Refusal) (r : Result Resolved Refusal) → IsErrAnd r (λ d. d ≡ e)
    → Gives {X = Unit {0}} (λ u. u) (Err e) (has_texts dialect mapped.schema command) → Gives (λ (line : Resolved). line) r (asked dialect mapped names command)
asks_not dialect mapped names command e (Ok line) same p = absurd same
asks_not dialect mapped names command e (Err d) same p = subst (λ (c : Refusal). Gives {X = Resolved} (λ line. line) (Err c) (asked dialect mapped names command)) (sym same) (asks_err dialect mapped names command e p)

pub ruleset asking = (of_resolving, of_texts, asks, asks_not)

resolves : (dialect : Dialect) (names : Bindings) (command : Command) (own : SessionState) (r : Result Resolved Refusal) → Gives (λ (line : Resolved). line) r (asked dialect own.mapping names command) → IfErr r IsOfAsking
    → Runs alone (λ (line : Resolved). line) (ask (λ session. asked dialect session.mapping names command)) own r own
resolves dialect names command own r p cause = asked_tells (λ session. asked dialect session.mapping names command) (tells_asked p cause)

not_resolved : {K : Type 0} (moment : K → Moment Store) (rules : Rules) (dialect : Dialect) (names : Bindings) (command : Command) (own : SessionState) (keeper : K) (e : Refusal)
    → Gives (λ (line : Resolved). line) (Err e) (asked dialect own.mapping names command) → IsOfAsking e → IsInStep own (moment keeper) → IsCommandCall moment (performed rules dialect names command) (own, keeper) (Err e) (own, keeper)
unfolding performed
not_resolved moment rules dialect names command own keeper e p cause in_step = record {
  step = then_own_err moment (program_of_resolved rules) (resolves dialect names command own (Err e) p cause);
  bound = λ names bound. bound;
  in_step = λ early. in_step;
  answer = tt;
}

-- the line was refused, and nothing has begun
pub refuses_line : {K : Type 0} (moment : K → Moment Store) (rules : Rules) (dialect : Dialect) (names : Bindings) (command : Command) (mapped : Mapped) (own : SessionState) (keeper : K) (e : Refusal) (r : Result Answer Refusal) → IsErrAnd r (λ d. d ≡ e) → mapped ≡ own.mapping
    → Gives (λ (line : Resolved). line) (Err e) (asked dialect mapped names command) → IsOfAsking e → IsInStep own (moment keeper) → IsCommandCall moment (performed rules dialect names command) (own, keeper) r (own, keeper)
refuses_line moment rules dialect names command mapped own keeper e (Ok answer) same is p cause in_step = absurd same
refuses_line moment rules dialect names command mapped own keeper e (Err d) same is p cause in_step =
    subst (λ (c : Refusal). IsCommandCall moment (performed rules dialect names command) (own, keeper) (Err c) (own, keeper)) (sym same)
    (not_resolved moment rules dialect names command own keeper e (subst (λ (m : Mapped). Gives (λ (line : Resolved). line) (Err e) (asked dialect m names command)) is p) cause in_step)

resolved_performed : {K : Type 0} (moment : K → Moment Store) (rules : Rules) (dialect : Dialect) (names : Bindings) (command : Command) (own now : SessionState) (old new : K) (line : Resolved) (r : Result Answer Refusal)
    → Gives (λ (line : Resolved). line) (Ok line) (asked dialect own.mapping names command) → IsPerformed moment (program_of_resolved rules line) (own, old) r (now, new)
    → IsCommandCall moment (performed rules dialect names command) (own, old) r (now, new)
unfolding performed
resolved_performed moment rules dialect names command own now old new line r p q = record {
  step = then_own_ok moment (program_of_resolved rules) (resolves dialect names command own (Ok line) p tt) q.step;
  bound = λ names bound. bound_stays names own now q.mapping q.stay q.drawn bound;
  in_step = q.in_step;
  answer = q.answer;
}

-- it was performed
pub performs_line : {K : Type 0} (moment : K → Moment Store) (rules : Rules) (dialect : Dialect) (names : Bindings) (command : Command) (mapped : Mapped) (own now : SessionState) (old new : K) (line : Resolved) (r : Result Answer Refusal) → mapped ≡ own.mapping
    → Gives (λ (line : Resolved). line) (Ok line) (asked dialect mapped names command) → IsPerformed moment (program_of_resolved rules line) (own, old) r (now, new)
    → IsCommandCall moment (performed rules dialect names command) (own, old) r (now, new)
performs_line moment rules dialect names command mapped own now old new line r same p q =
    resolved_performed moment rules dialect names command own now old new line r (subst (λ (m : Mapped). Gives (λ (line : Resolved). line) (Ok line) (asked dialect m names command)) same p) q

-- ---- a line that compiles

pub compiled_none : {stage : Stage} {mapping : Mapped} (command : Command) → stage ≡ Declaring mapping → Tells {X = List ℕ} (λ reply. reply) (compiled_at stage command) (Err (InvalidRequestError NotConfigured))
compiled_none command is = subst (λ (s : Stage). Tells {X = List ℕ} (λ reply. reply) (compiled_at s command) (Err (InvalidRequestError NotConfigured))) (sym is) (tells_err refl refl refl)

pub compiled_some : {stage : Stage} {session : SessionState} {r : Result (List ℕ) Refusal} (command : Command)
    → stage ≡ Configured session → Gives (λ (reply : List ℕ). reply) r (compiled_over session.mapping command) → IfErr r IsOfAsking → Tells (λ (reply : List ℕ). reply) (compiled_at stage command) r
compiled_some {r = r} command is p cause = subst (λ (s : Stage). Tells (λ (reply : List ℕ). reply) (compiled_at s command) r) (sym is) (tells_asked p cause)

pub ruleset compiling = (compiled_none, compiled_some, any_texts, of_queries, plain_has_cuts)
