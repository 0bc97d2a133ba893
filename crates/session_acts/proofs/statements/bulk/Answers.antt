use Rattle.std.proofs.Common.{length, sym, ap, ◌∙◌, subst, arith}
use Rattle.keeper_core.specs.Keeping.{RefusesBulk}
use Rattle.keeper_core.specs.declared.sent.Sent.TheVariants as sent
use Rattle.schema_core.specs.Catalog.{Catalog}
use Rattle.session_calls.specs.Refusals.{entered}
use Rattle.session_calls.specs.Steps.{pending_fault}
use Rattle.session_calls.proofs.Joining.{passed_call}
use Rattle.session_calls.proofs.Refusing.{call_calm, passed_on}
use Rattle.class_mapping.specs.Mapped.{Mapped}
use Rattle.sql_semantics.specs.Plain.{IsPlainBulk}
use Rattle.session_statements.specs.Steps.{bulk, update_fault}
use Rattle.session_acts.specs.Steps as own
use Rattle.session_acts.proofs.ActLemmas.{asking_refused, flush_refused, flushed_then}
use Rattle.session_acts.specs.Refusals.{Asked, IsRefusedSending, Unflushed}
use Rattle.session_acts.proofs.Unwritten.{not_sent, not_written, written_since}
use Rattle.session_acts.proofs.statements.bulk.Goals as goal

pub flush-requires : goal.flush-requires
flush-requires g c = record { in_step = c.in_ok-enter_bulk.ensures.call.kept.in_step; inside = c.in_ok-enter_bulk.ensures.inside; well = c.in_ok-enter_bulk.ensures.well }

pub returns-in_err-enter_bulk-clause-call : goal.returns-in_err-enter_bulk-clause-call
unfolding own.bulk
returns-in_err-enter_bulk-clause-call g c = passed_call c.from_residual.ensures.1 (asking_refused g.K.Keeper.moment (bulk c.args.statement.now) c.in_err-enter_bulk.ensures.call)

pub returns-in_err-flush-clause-call : goal.returns-in_err-flush-clause-call
unfolding own.bulk
returns-in_err-flush-clause-call g c = passed_call c.from_residual-in_err-flush.ensures.1 (flush_refused g.K.Keeper.moment (bulk c.args.statement.now) c.in_ok-enter_bulk.ensures.call c.in_err-flush.ensures.call)

pub returns-clause-call : goal.returns-clause-call
unfolding own.bulk
returns-clause-call g c = flushed_then g.K.Keeper.moment (bulk c.args.statement.now) c.in_ok-enter_bulk.ensures.call c.in_ok-flush.ensures.call c.bulk.ensures.call

pub bulk-requires : goal.bulk-requires
bulk-requires g c =
    let asked : own.IsPlainButForKeys c.enter_bulk.new.session.mapping.schema c.args.statement.now =
    subst (λ (m : Mapped). own.IsPlainButForKeys m.schema c.args.statement.now) (sym c.in_ok-enter_bulk.ensures.call.kept.same.mapping) c.requires.plain in
    record {
      in_step = c.in_ok-flush.ensures.call.kept.in_step;
      inside = omega (arith, ap length c.in_ok-flush.ensures.scopes, c.in_ok-enter_bulk.ensures.inside);
      plain = subst (λ (m : Mapped). IsPlainBulk m.schema c.args.statement.now) (sym c.in_ok-flush.ensures.call.kept.same.mapping) (asked c.in_ok-enter_bulk.ensures.spares);
    }

pub returns-in_err-enter_bulk-clause-refused : goal.returns-in_err-enter_bulk-clause-refused
returns-in_err-enter_bulk-clause-refused g c =
    passed_on
    (λ e. IsRefusedSending (pending_fault c.args.session.now) (update_fault c.args.statement.now c.args.session.now) (sent.Bulk c.args.statement.now) (RefusesBulk c.args.session.now.mapping.schema c.args.statement.now) c.args.session.now
    (g.K.Keeper.moment c.args.keeper.now) e c.enter_bulk.new.session (g.K.Keeper.moment c.enter_bulk.new.keeper)) c.from_residual.result c.from_residual.ensures.1 (Unflushed (Asked c.in_err-enter_bulk.ensures.refused))

pub returns-in_err-flush-clause-refused : goal.returns-in_err-flush-clause-refused
returns-in_err-flush-clause-refused g c =
    passed_on
    (λ e. IsRefusedSending (pending_fault c.args.session.now) (update_fault c.args.statement.now c.args.session.now) (sent.Bulk c.args.statement.now) (RefusesBulk c.args.session.now.mapping.schema c.args.statement.now) c.args.session.now
    (g.K.Keeper.moment c.args.keeper.now) e c.flush.new.session (g.K.Keeper.moment c.flush.new.keeper)) c.from_residual-in_err-flush.result c.from_residual-in_err-flush.ensures.1
    (Unflushed
    (not_written (pending_fault c.args.session.now) (update_fault c.args.statement.now c.args.session.now) c.args.session.now c.enter_bulk.new.session c.flush.new.session (g.K.Keeper.moment c.args.keeper.now)
    (g.K.Keeper.moment c.enter_bulk.new.keeper) (g.K.Keeper.moment c.flush.new.keeper) c.in_err-flush.field-0.0 c.in_ok-enter_bulk.ensures.entered (call_calm c.in_ok-enter_bulk.ensures.call).0 c.in_err-flush.ensures.refused))

pub returns-clause-refused : goal.returns-clause-refused
returns-clause-refused g c =
    not_sent (pending_fault c.args.session.now) (update_fault c.args.statement.now c.args.session.now) (sent.Bulk c.args.statement.now) (λ (schema : Catalog). RefusesBulk schema c.args.statement.now) c.args.session.now
    c.flush.new.session c.bulk.new.session (g.K.Keeper.moment c.args.keeper.now) (g.K.Keeper.moment c.flush.new.keeper) (g.K.Keeper.moment c.bulk.new.keeper) c.bulk.result
    (written_since (entered c.args.session.now) c.enter_bulk.new.session c.flush.new.session c.in_ok-enter_bulk.ensures.entered c.in_ok-flush.ensures.flushed)
    (c.in_ok-flush.ensures.call.kept.same.mapping ∙ c.in_ok-enter_bulk.ensures.call.kept.same.mapping)
    ((call_calm c.in_ok-flush.ensures.call).0 ∙ (call_calm c.in_ok-enter_bulk.ensures.call).0) c.bulk.ensures.refused
