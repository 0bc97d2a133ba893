use Rattle.std.proofs.Common.{IfErr, OnOk, refl, sym, subst}
use Rattle.base_core.specs.declared.refusal.Refusal.TheVariants.{Memory}
use Rattle.flush_order.specs.Ready.{AreReady}
use Rattle.schema_core.specs.declared.changes.RowChanges.{RowChanges}
use Rattle.object_rows.specs.declared.prepared.Prepared.{Prepared}
use Rattle.graph_flushed.specs.Fitting.{AreClearable}
use Rattle.session_calls.proofs.Joining.{passed_call}
use Rattle.session_calls.proofs.Refusing.{passed_on}
use Rattle.session_acts.specs.Outcome.{IsUntouched, IsWriteCause, IsWritten, changes_of}
use Rattle.session_acts.proofs.Clearing.{clearable}
use Rattle.session_acts.proofs.Outcomes.{as_written, memory_cause, untouched_early}
use Rattle.session_acts.proofs.Steps.{loaded_written, no_room_alike}
use Rattle.session_acts.proofs.writing.write_loaded.Goals as goal

pub returns-in_err-prepared-clause-call : goal.returns-in_err-prepared-clause-call
returns-in_err-prepared-clause-call g c = passed_call c.from_residual.ensures.1 (no_room_alike g.K.Keeper.moment refl refl)

pub returns-in_err-prepared-clause-untouched : goal.returns-in_err-prepared-clause-untouched
returns-in_err-prepared-clause-untouched g c =
    passed_on (λ e. IsUntouched e c.args.session.now c.args.session.now) c.from_residual.result c.from_residual.ensures.1 (untouched_early Memory c.args.session.now c.args.session.now refl)

pub returns-in_err-prepared-clause-cause : goal.returns-in_err-prepared-clause-cause
returns-in_err-prepared-clause-cause g c =
    passed_on (λ e. IsWriteCause c.args.session.now.mapping.schema (changes_of c.args.session.now) (g.K.Keeper.moment c.args.keeper.now) e (g.K.Keeper.moment c.args.keeper.now)) c.from_residual.result c.from_residual.ensures.1
    (memory_cause c.args.session.now.mapping.schema (changes_of c.args.session.now) Memory (g.K.Keeper.moment c.args.keeper.now) (g.K.Keeper.moment c.args.keeper.now) refl)

pub returns-in_err-rows-clause-call : goal.returns-in_err-rows-clause-call
returns-in_err-rows-clause-call g c = passed_call c.from_residual-in_err-rows.ensures.1 (no_room_alike g.K.Keeper.moment refl refl)

pub returns-in_err-rows-clause-untouched : goal.returns-in_err-rows-clause-untouched
returns-in_err-rows-clause-untouched g c =
    passed_on (λ e. IsUntouched e c.args.session.now c.args.session.now) c.from_residual-in_err-rows.result c.from_residual-in_err-rows.ensures.1 (untouched_early Memory c.args.session.now c.args.session.now refl)

pub returns-in_err-rows-clause-cause : goal.returns-in_err-rows-clause-cause
returns-in_err-rows-clause-cause g c =
    passed_on (λ e. IsWriteCause c.args.session.now.mapping.schema (changes_of c.args.session.now) (g.K.Keeper.moment c.args.keeper.now) e (g.K.Keeper.moment c.args.keeper.now)) c.from_residual-in_err-rows.result c.from_residual-in_err-rows.ensures.1
    (memory_cause c.args.session.now.mapping.schema (changes_of c.args.session.now) Memory (g.K.Keeper.moment c.args.keeper.now) (g.K.Keeper.moment c.args.keeper.now) refl)

pub write_warned-requires : goal.write_warned-requires
write_warned-requires g c = record {
  in_step = c.requires.in_step;
  inside = c.requires.inside;
  range = c.in_ok-rows.ensures.range;
  ready = subst (AreReady c.args.session.now.mapping.schema c.in_ok-rows.rows) (sym c.as_slice.ensures.value) c.in_ok-rows.ensures.ready;
  configured = c.in_ok-rows.ensures.configured;
  clearable = subst (AreClearable c.args.session.now.mapping c.args.session.now.graph) (sym c.in_ok-prepared.ensures.prepared) (clearable c.args.session.now.mapping c.args.session.now.graph c.in_ok-rows.ensures.configured.hierarchies.paired);
}

pub returns-clause-call : goal.returns-clause-call
returns-clause-call g c = loaded_written g.K.Keeper.moment c.in_ok-prepared.prepared c.in_ok-rows.rows c.in_ok-prepared.ensures.prepared c.in_ok-rows.ensures.changes c.write_warned.ensures.call

pub returns-clause-written : goal.returns-clause-written
returns-clause-written g c =
    as_written (λ (p : Prepared) (rows : RowChanges). OnOk c.write_warned.result (IsWritten p rows c.args.session.now c.write_warned.new.session)) c.args.session.now c.in_ok-prepared.prepared c.in_ok-rows.rows c.in_ok-prepared.ensures.prepared
    c.in_ok-rows.ensures.changes c.write_warned.ensures.written

pub returns-clause-cause : goal.returns-clause-cause
returns-clause-cause g c =
    as_written
    (λ (p : Prepared) (rows : RowChanges). IfErr c.write_warned.result (λ e. IsWriteCause c.args.session.now.mapping.schema rows (g.K.Keeper.moment c.args.keeper.now) e (g.K.Keeper.moment c.write_warned.new.keeper)))
    c.args.session.now c.in_ok-prepared.prepared c.in_ok-rows.rows c.in_ok-prepared.ensures.prepared c.in_ok-rows.ensures.changes c.write_warned.ensures.cause
