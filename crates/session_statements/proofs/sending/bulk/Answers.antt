use Rattle.std.proofs.Common.{◌∙◌, ap, refl}
use Rattle.base_core.specs.declared.ids.TableId.{TableId}
use Rattle.base_core.specs.declared.refusal.Refusal.TheVariants.{Memory}
use Rattle.keeper_core.specs.Keeping.{RefusesBulk}
use Rattle.keeper_core.specs.declared.sent.Sent.TheVariants as sent
use Rattle.session_calls.proofs.Joining.{passed_call}
use Rattle.session_calls.proofs.Refusing.{passed_on}
use Rattle.session_statements.specs.Refusals.{IsRefusedByKeeper}
use Rattle.session_statements.specs.Rewriting.{session_reread}
use Rattle.session_statements.proofs.Statements.{bulk_done, bulk_lost, bulk_refused, lost_then}
use Rattle.session_statements.proofs.sending.bulk.Goals as goal

pub returns-in_err-count-clause-call : goal.returns-in_err-count-clause-call
returns-in_err-count-clause-call g c = passed_call c.from_residual.ensures.1 (bulk_refused g.K.Keeper.moment c.args.statement.now c.in_err-count.ensures.call)

pub returns-in_err-step-clause-call : goal.returns-in_err-step-clause-call
returns-in_err-step-clause-call g c =
    passed_call c.from_residual-in_err-step.ensures.1
    (bulk_lost g.K.Keeper.moment c.args.statement.now c.in_ok-count.count c.in_ok-count.ensures.call refl c.in_err-step.ensures.same)

pub returns-clause-call : goal.returns-clause-call
returns-clause-call g c =
    bulk_done g.K.Keeper.moment c.args.statement.now c.in_ok-count.count c.in_ok-count.ensures.call
    (c.in_ok-step.ensures.ok ∙ ap (λ (t : TableId). session_reread t c.send_bulk.new.session) c.table_of_bulk.ensures)
    c.in_ok-step.ensures.same c.in_ok-step.ensures.scopes

pub returns-in_err-count-clause-refused : goal.returns-in_err-count-clause-refused
returns-in_err-count-clause-refused g c =
    passed_on
    (λ e. IsRefusedByKeeper (sent.Bulk c.args.statement.now) (RefusesBulk c.args.session.now.mapping.schema c.args.statement.now) c.args.session.now (g.K.Keeper.moment c.args.keeper.now) e c.send_bulk.new.session (g.K.Keeper.moment c.send_bulk.new.keeper))
    c.from_residual.result c.from_residual.ensures.1 c.in_err-count.ensures.refused

pub returns-in_err-step-clause-refused : goal.returns-in_err-step-clause-refused
returns-in_err-step-clause-refused g c =
    passed_on
    (λ e. IsRefusedByKeeper (sent.Bulk c.args.statement.now) (RefusesBulk c.args.session.now.mapping.schema c.args.statement.now) c.args.session.now (g.K.Keeper.moment c.args.keeper.now) e c.step.new.self (g.K.Keeper.moment c.send_bulk.new.keeper))
    c.from_residual-in_err-step.result c.from_residual-in_err-step.ensures.1
    (lost_then (sent.Bulk c.args.statement.now) (RefusesBulk c.args.session.now.mapping.schema c.args.statement.now) c.args.session.now c.step.new.self (g.K.Keeper.moment c.args.keeper.now) (g.K.Keeper.moment c.send_bulk.new.keeper) Memory
    refl)
