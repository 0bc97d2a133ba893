use Rattle.std.proofs.Common.{None, sym, subst}
use Rattle.keeper_core.specs.Keeping.{RefusesSelect}
use Rattle.keeper_core.specs.declared.sent.Sent.TheVariants as sent
use Rattle.schema_core.specs.Catalog.{Catalog}
use Rattle.session_calls.specs.Steps.{pending_fault}
use Rattle.session_calls.proofs.Joining.{err_call, passed_call, then_call}
use Rattle.session_calls.proofs.Refusing.{call_calm, passed_on}
use Rattle.class_mapping.specs.Mapped.{Mapped}
use Rattle.sql_semantics.specs.Plain.{IsPlainSelect}
use Rattle.session_statements.specs.Steps.{rows}
use Rattle.session_acts.specs.Steps as own
use Rattle.session_acts.specs.Refusals.{IsRefusedSending, Unflushed}
use Rattle.session_acts.proofs.Unwritten.{not_sent}
use Rattle.session_acts.proofs.statements.rows.Goals as goal

pub rows-requires : goal.rows-requires
rows-requires g c = record {
  in_step = c.in_ok-flush_now.ensures.call.kept.in_step;
  inside = c.in_ok-flush_now.ensures.inside;
  plain = subst (λ (m : Mapped). IsPlainSelect m.schema c.args.select.now) (sym c.in_ok-flush_now.ensures.call.kept.same.mapping) c.requires.plain;
}

pub returns-in_err-flush_now-clause-call : goal.returns-in_err-flush_now-clause-call
unfolding own.rows
returns-in_err-flush_now-clause-call g c = passed_call c.from_residual.ensures.1 (err_call (λ u. (rows c.args.select.now)) c.in_err-flush_now.ensures.call)

pub returns-clause-call : goal.returns-clause-call
unfolding own.rows
returns-clause-call g c = then_call (λ u. (rows c.args.select.now)) c.in_ok-flush_now.ensures.call c.rows.ensures.call

pub returns-in_err-flush_now-clause-refused : goal.returns-in_err-flush_now-clause-refused
returns-in_err-flush_now-clause-refused g c =
    passed_on
    (λ e. IsRefusedSending (pending_fault c.args.session.now) None (sent.Query c.args.select.now) (RefusesSelect c.args.session.now.mapping.schema c.args.select.now) c.args.session.now (g.K.Keeper.moment c.args.keeper.now) e c.flush_now.new.session
    (g.K.Keeper.moment c.flush_now.new.keeper)) c.from_residual.result c.from_residual.ensures.1 (Unflushed c.in_err-flush_now.ensures.refused)

pub returns-clause-refused : goal.returns-clause-refused
returns-clause-refused g c =
    not_sent (pending_fault c.args.session.now) None (sent.Query c.args.select.now) (λ (schema : Catalog). RefusesSelect schema c.args.select.now) c.args.session.now c.flush_now.new.session c.rows.new.session
    (g.K.Keeper.moment c.args.keeper.now) (g.K.Keeper.moment c.flush_now.new.keeper) (g.K.Keeper.moment c.rows.new.keeper) c.rows.result c.in_ok-flush_now.ensures.flushed c.in_ok-flush_now.ensures.call.kept.same.mapping
    (call_calm c.in_ok-flush_now.ensures.call).0 c.rows.ensures.refused
