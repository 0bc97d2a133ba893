use Rattle.std.proofs.Common.{Ok, Err, refl, sym, ap, ◌∙◌, subst}
use Rattle.base_core.specs.declared.refusal.Refusal.TheVariants.{Memory}
use Rattle.class_mapping.specs.Configured.{IsConfigured}
use Rattle.graph_flushed.specs.Fitting.{AreClearable}
use Rattle.session_scopes.specs.SessionState.{SessionState}
use Rattle.session_calls.proofs.Joining.{passed_call}
use Rattle.session_calls.proofs.Refusing.{passed_on}
use Rattle.session_acts.specs.Outcome.{IsUntouched, IsWriteCause}
use Rattle.session_acts.proofs.Outcomes.{memory_cause, plan_cause, rows_settled, run_cause, untouched_early, untouched_still}
use Rattle.session_acts.proofs.Steps.{rows_refused, rows_unplanned, rows_written}
use Rattle.session_acts.proofs.writing.write_rows.Goals as goal

-- there is no plan
pub returns-in_err-statements-clause-call : goal.returns-in_err-statements-clause-call
returns-in_err-statements-clause-call g c = passed_call c.from_residual.ensures.1 (rows_unplanned g.K.Keeper.moment c.args.prepared.now c.args.rows.now c.in_err-statements.ensures c.requires.in_step)

pub returns-in_err-statements-clause-untouched : goal.returns-in_err-statements-clause-untouched
returns-in_err-statements-clause-untouched g c =
    passed_on (λ e. IsUntouched e c.args.session.now c.args.session.now) c.from_residual.result c.from_residual.ensures.1 (untouched_still c.in_err-statements.field-0.0 c.args.session.now c.args.session.now refl)

pub returns-in_err-statements-clause-cause : goal.returns-in_err-statements-clause-cause
returns-in_err-statements-clause-cause g c =
    passed_on (λ e. IsWriteCause c.args.session.now.mapping.schema c.args.rows.now (g.K.Keeper.moment c.args.keeper.now) e (g.K.Keeper.moment c.args.keeper.now)) c.from_residual.result c.from_residual.ensures.1
    (plan_cause c.args.session.now.mapping.schema c.args.rows.now c.in_err-statements.field-0.0 (g.K.Keeper.moment c.args.keeper.now) (g.K.Keeper.moment c.args.keeper.now) c.in_err-statements.ensures)

-- the run of the plan was refused
pub send_plan-requires : goal.send_plan-requires
send_plan-requires g c = record { in_step = c.requires.in_step; inside = c.requires.inside; gone = c.requires.range.gone }

pub returns-in_err-keys-clause-call : goal.returns-in_err-keys-clause-call
returns-in_err-keys-clause-call g c =
    passed_call c.from_residual-in_err-keys.ensures.1 (rows_refused g.K.Keeper.moment c.args.prepared.now c.args.rows.now c.in_ok-statements.statements c.in_ok-statements.ensures c.requires.in_step c.in_err-keys.ensures.call)

pub returns-in_err-keys-clause-scopes : goal.returns-in_err-keys-clause-scopes
returns-in_err-keys-clause-scopes g c = ap (λ (s : SessionState). s.frames.scopes) c.in_err-keys.ensures.alike

pub returns-in_err-keys-clause-well : goal.returns-in_err-keys-clause-well
returns-in_err-keys-clause-well g c = ap (λ (s : SessionState). s.failed) c.in_err-keys.ensures.alike

pub returns-in_err-keys-clause-untouched : goal.returns-in_err-keys-clause-untouched
returns-in_err-keys-clause-untouched g c =
    passed_on (λ e. IsUntouched e c.args.session.now c.send_plan.new.session) c.from_residual-in_err-keys.result c.from_residual-in_err-keys.ensures.1
    (untouched_still c.in_err-keys.field-0.0 c.args.session.now c.send_plan.new.session c.in_err-keys.ensures.alike)

pub returns-in_err-keys-clause-cause : goal.returns-in_err-keys-clause-cause
returns-in_err-keys-clause-cause g c =
    passed_on (λ e. IsWriteCause c.args.session.now.mapping.schema c.args.rows.now (g.K.Keeper.moment c.args.keeper.now) e (g.K.Keeper.moment c.send_plan.new.keeper)) c.from_residual-in_err-keys.result c.from_residual-in_err-keys.ensures.1
    (run_cause c.args.session.now.mapping.schema c.args.rows.now c.in_ok-statements.statements c.in_err-keys.field-0.0 (g.K.Keeper.moment c.args.keeper.now) (g.K.Keeper.moment c.send_plan.new.keeper) c.in_ok-statements.ensures c.in_err-keys.ensures.cause)

-- the objects change
pub step-requires : goal.step-requires
step-requires g c = subst (λ (s : SessionState). IsConfigured s.mapping × AreClearable s.mapping s.graph c.args.prepared.now) (sym c.in_ok-keys.ensures.alike) (c.requires.configured, c.requires.clearable)

-- memory ran out as the objects changed
pub returns-in_err-step-clause-call : goal.returns-in_err-step-clause-call
returns-in_err-step-clause-call g c =
    passed_call c.from_residual-in_err-step.ensures.1
    (rows_written g.K.Keeper.moment c.args.prepared.now c.args.rows.now {r = Err Memory} c.in_ok-statements.statements c.in_ok-keys.keys c.in_ok-statements.ensures c.requires.in_step c.in_ok-keys.ensures.call
    tt refl c.in_err-step.ensures.same c.in_err-step.ensures.scopes)

pub returns-in_err-step-clause-scopes : goal.returns-in_err-step-clause-scopes
returns-in_err-step-clause-scopes g c = c.in_err-step.ensures.scopes ∙ ap (λ (s : SessionState). s.frames.scopes) c.in_ok-keys.ensures.alike

pub returns-in_err-step-clause-well : goal.returns-in_err-step-clause-well
returns-in_err-step-clause-well g c = ap (λ (s : SessionState). s.failed) c.in_err-step.ensures.rest ∙ ap (λ (s : SessionState). s.failed) c.in_ok-keys.ensures.alike

pub returns-in_err-step-clause-untouched : goal.returns-in_err-step-clause-untouched
returns-in_err-step-clause-untouched g c =
    passed_on (λ e. IsUntouched e c.args.session.now c.step.new.self) c.from_residual-in_err-step.result c.from_residual-in_err-step.ensures.1 (untouched_early Memory c.args.session.now c.step.new.self refl)

pub returns-in_err-step-clause-cause : goal.returns-in_err-step-clause-cause
returns-in_err-step-clause-cause g c =
    passed_on (λ e. IsWriteCause c.args.session.now.mapping.schema c.args.rows.now (g.K.Keeper.moment c.args.keeper.now) e (g.K.Keeper.moment c.send_plan.new.keeper)) c.from_residual-in_err-step.result c.from_residual-in_err-step.ensures.1
    (memory_cause c.args.session.now.mapping.schema c.args.rows.now Memory (g.K.Keeper.moment c.args.keeper.now) (g.K.Keeper.moment c.send_plan.new.keeper) refl)

-- the objects stand as they were written
pub returns-clause-call : goal.returns-clause-call
returns-clause-call g c =
    rows_written g.K.Keeper.moment c.args.prepared.now c.args.rows.now {r = Ok tt} c.in_ok-statements.statements c.in_ok-keys.keys c.in_ok-statements.ensures c.requires.in_step c.in_ok-keys.ensures.call
    c.in_ok-step.ensures.ok tt c.in_ok-step.ensures.same c.in_ok-step.ensures.scopes

pub returns-clause-scopes : goal.returns-clause-scopes
returns-clause-scopes g c = c.in_ok-step.ensures.scopes ∙ ap (λ (s : SessionState). s.frames.scopes) c.in_ok-keys.ensures.alike

pub returns-clause-well : goal.returns-clause-well
returns-clause-well g c = ap (λ (s : SessionState). s.failed) c.in_ok-step.ensures.rest ∙ ap (λ (s : SessionState). s.failed) c.in_ok-keys.ensures.alike

pub returns-clause-written : goal.returns-clause-written
returns-clause-written g c =
    rows_settled c.args.prepared.now c.args.rows.now c.in_ok-keys.keys c.args.session.now c.send_plan.new.session c.step.new.self c.in_ok-keys.ensures.alike c.in_ok-keys.ensures.long c.in_ok-step.ensures.ok
