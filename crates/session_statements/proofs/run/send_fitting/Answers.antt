use Rattle.std.proofs.Common.{List, Err, ap, refl, sym, ◌∙◌, subst}
use Rattle.base_core.specs.declared.ids.TableId.{TableId}
use Rattle.base_core.specs.declared.refusal.Refusal.TheVariants.{StaleDataError}
use Rattle.base_core.specs.declared.value.Value.{Value}
use Rattle.schema_core.specs.declared.statement.RowStmt.{RowStmt}
use Rattle.schema_core.specs.WellFormed.{AreKeysFor}
use Rattle.flush_plan.specs.Flushing.{keys_then}
use Rattle.session_calls.specs.Calling.{IsSessionCall}
use Rattle.session_calls.proofs.Joining.{passed_call}
use Rattle.plan_statements.specs.Known.{keys_at}
use Rattle.session_statements.specs.Run.{send_one}
use Rattle.session_statements.proofs.Causes.{stale_cause}
use Rattle.session_statements.proofs.OneStatement.{keys_answered, row_missing, write_ran_out, write_refused}
use Rattle.session_statements.proofs.run.send_fitting.Goals as goal

pub returns-in_err-answered-clause-call : goal.returns-in_err-answered-clause-call
returns-in_err-answered-clause-call g c = λ changes keys known stale are sendable sent.
    passed_call c.from_residual.ensures.1
    (write_refused g.K.Keeper.moment c.args.session.now.mapping.schema changes c.args.planned.now keys known c.args.statement.now sent are c.in_err-answered.ensures.call sendable)

pub returns-in_err-is_row_missing-clause-call : goal.returns-in_err-is_row_missing-clause-call
returns-in_err-is_row_missing-clause-call g c = λ changes keys known stale are sendable sent.
    passed_call c.from_residual-in_err-is_row_missing.ensures.1
    (write_ran_out g.K.Keeper.moment c.args.session.now.mapping.schema changes c.args.planned.now keys known c.args.statement.now sent refl are c.in_ok-answered.ensures.call sendable)

pub returns-then-branch-clause-call : goal.returns-then-branch-clause-call
returns-then-branch-clause-call g c = λ changes keys known stale are sendable sent.
    subst (λ (t : TableId). IsSessionCall g.K.Keeper.moment (λ (x : List (List Value)). keys_then keys c.args.planned.now x) (send_one c.args.session.now.mapping.schema changes c.args.planned.now keys)
    (c.args.session.now, c.args.keeper.now) (Err (StaleDataError t)) (c.write_noted.new.session, c.write_noted.new.keeper)) (sym c.table_of.ensures)
    (row_missing g.K.Keeper.moment c.args.session.now.mapping.schema changes c.args.planned.now keys known c.args.statement.now sent are c.in_ok-answered.ensures.call sendable
    (sym (c.in_ok-is_row_missing.ensures c.args.session.now.mapping.schema changes stale) ∙ c.if-branch.true))

pub returns-then-branch-clause-cause : goal.returns-then-branch-clause-cause
returns-then-branch-clause-cause g c = λ changes known stale sendable sent.
    stale_cause c.args.session.now.mapping.schema changes c.args.planned.now c.in_ok-answered.answered
    (record {
      keys = keys_at known;
      fits = sendable;
      shape = subst (λ (s : RowStmt). AreKeysFor c.args.session.now.mapping.schema s c.in_ok-answered.answered) sent c.in_ok-answered.ensures.keys;
    })
    (g.K.Keeper.moment c.args.keeper.now) (g.K.Keeper.moment c.write_noted.new.keeper) (StaleDataError c.table_of.result)
    (sym (c.in_ok-is_row_missing.ensures c.args.session.now.mapping.schema changes stale) ∙ c.if-branch.true) (ap (λ (t : TableId). StaleDataError t) c.table_of.ensures)

pub returns-clause-call : goal.returns-clause-call
returns-clause-call g c = λ changes keys known stale are sendable sent.
    keys_answered g.K.Keeper.moment c.args.session.now.mapping.schema changes c.args.planned.now keys known c.args.statement.now sent are c.in_ok-answered.ensures.call sendable
    (sym (c.in_ok-is_row_missing.ensures c.args.session.now.mapping.schema changes stale) ∙ c.if-branch.false)
