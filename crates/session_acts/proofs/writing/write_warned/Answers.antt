use Rattle.std.proofs.Common.{IfErr, length, refl, sym, ap, ◌∙◌, subst, arith}
use Rattle.std.proofs.lemmas.Result.{IfErr-weaker}
use Rattle.base_core.specs.declared.refusal.Refusal.TheVariants.{Memory}
use Rattle.flush_order.specs.Ready.{AreInRange, AreReady}
use Rattle.schema_core.specs.Catalog.{Catalog}
use Rattle.class_mapping.specs.Configured.{IsConfigured}
use Rattle.graph_flushed.specs.Fitting.{AreClearable}
use Rattle.session_scopes.specs.SessionState.{SessionState, with_warnings}
use Rattle.session_calls.proofs.Joining.{passed_call}
use Rattle.session_calls.proofs.Refusing.{passed_on}
use Rattle.session_acts.specs.Outcome.{IsUntouched, IsWriteCause}
use Rattle.session_acts.proofs.Outcomes.{memory_cause, untouched_along, untouched_early, written_warned}
use Rattle.session_acts.proofs.Steps.{alike_in_step, no_room_alike, rows_warned}
use Rattle.session_acts.proofs.writing.write_warned.Goals as goal

-- there was no room for a warning
pub returns-in_err-warn_all-clause-call : goal.returns-in_err-warn_all-clause-call
returns-in_err-warn_all-clause-call g c = passed_call c.from_residual.ensures.1 (no_room_alike g.K.Keeper.moment refl c.in_err-warn_all.ensures.alike)

pub returns-in_err-warn_all-clause-scopes : goal.returns-in_err-warn_all-clause-scopes
returns-in_err-warn_all-clause-scopes g c = ap (λ (s : SessionState). s.frames.scopes) c.in_err-warn_all.ensures.alike

pub returns-in_err-warn_all-clause-well : goal.returns-in_err-warn_all-clause-well
returns-in_err-warn_all-clause-well g c = ap (λ (s : SessionState). s.failed) c.in_err-warn_all.ensures.alike

pub returns-in_err-warn_all-clause-untouched : goal.returns-in_err-warn_all-clause-untouched
returns-in_err-warn_all-clause-untouched g c =
    passed_on (λ e. IsUntouched e c.args.session.now c.warn_all.new.self) c.from_residual.result c.from_residual.ensures.1 (untouched_early Memory c.args.session.now c.warn_all.new.self refl)

pub returns-in_err-warn_all-clause-cause : goal.returns-in_err-warn_all-clause-cause
returns-in_err-warn_all-clause-cause g c =
    passed_on (λ e. IsWriteCause c.args.session.now.mapping.schema c.args.rows.now (g.K.Keeper.moment c.args.keeper.now) e (g.K.Keeper.moment c.args.keeper.now)) c.from_residual.result c.from_residual.ensures.1
    (memory_cause c.args.session.now.mapping.schema c.args.rows.now Memory (g.K.Keeper.moment c.args.keeper.now) (g.K.Keeper.moment c.args.keeper.now) refl)

-- the warnings were noted
pub write_rows-requires : goal.write_rows-requires
write_rows-requires g c = record {
  in_step = alike_in_step (g.K.Keeper.moment c.args.keeper.now) c.args.session.now c.warn_all.new.self c.in_ok-warn_all.ensures.alike c.requires.in_step;
  inside = omega (arith, ap (λ (s : SessionState). length s.frames.scopes) c.in_ok-warn_all.ensures.alike, c.requires.inside);
  configured = subst (λ (s : SessionState). IsConfigured s.mapping) (sym c.in_ok-warn_all.ensures.alike) c.requires.configured;
  clearable = subst (λ (s : SessionState). AreClearable s.mapping s.graph c.args.prepared.now) (sym c.in_ok-warn_all.ensures.alike) c.requires.clearable;
  range = subst (λ (s : SessionState). AreInRange s.mapping.schema c.args.rows.now) (sym c.in_ok-warn_all.ensures.alike) c.requires.range;
  ready = subst (λ (s : SessionState). AreReady s.mapping.schema c.args.rows.now c.args.ready.now) (sym c.in_ok-warn_all.ensures.alike) c.requires.ready;
}

pub returns-clause-call : goal.returns-clause-call
returns-clause-call g c =
    rows_warned g.K.Keeper.moment c.args.prepared.now c.args.rows.now c.requires.in_step (c.in_ok-warn_all.ensures.ok ∙ ap (λ ws. with_warnings ws c.args.session.now) c.as_slice.ensures) c.in_ok-warn_all.ensures.alike c.write_rows.ensures.call

pub returns-clause-scopes : goal.returns-clause-scopes
returns-clause-scopes g c = c.write_rows.ensures.scopes ∙ ap (λ (s : SessionState). s.frames.scopes) c.in_ok-warn_all.ensures.alike

pub returns-clause-well : goal.returns-clause-well
returns-clause-well g c = c.write_rows.ensures.well ∙ ap (λ (s : SessionState). s.failed) c.in_ok-warn_all.ensures.alike

pub returns-clause-written : goal.returns-clause-written
returns-clause-written g c = written_warned c.args.prepared.now c.args.rows.now c.args.session.now c.warn_all.new.self c.write_rows.new.session c.write_rows.result c.in_ok-warn_all.ensures.alike c.write_rows.ensures.written

pub returns-clause-untouched : goal.returns-clause-untouched
returns-clause-untouched g c =
    IfErr-weaker c.write_rows.result (λ e. IsUntouched e c.warn_all.new.self c.write_rows.new.session) (λ e. IsUntouched e c.args.session.now c.write_rows.new.session)
    (λ e is. untouched_along e c.args.session.now c.warn_all.new.self c.write_rows.new.session c.in_ok-warn_all.ensures.alike is) c.write_rows.ensures.untouched

pub returns-clause-cause : goal.returns-clause-cause
returns-clause-cause g c =
    subst (λ (schema : Catalog). IfErr c.write_rows.result (λ e. IsWriteCause schema c.args.rows.now (g.K.Keeper.moment c.args.keeper.now) e (g.K.Keeper.moment c.write_rows.new.keeper)))
    (ap (λ (s : SessionState). s.mapping.schema) c.in_ok-warn_all.ensures.alike) c.write_rows.ensures.cause
