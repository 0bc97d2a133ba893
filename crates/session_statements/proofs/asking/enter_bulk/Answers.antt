use Rattle.std.proofs.Common.{refl, sym, ap, ◌∙◌}
use Rattle.class_mapping.specs.Mapped.{Mapped}
use Rattle.session_calls.specs.Refusals.{IsRefused}
use Rattle.session_calls.specs.Steps.{pending_fault}
use Rattle.session_calls.proofs.Joining.{passed_call}
use Rattle.session_calls.proofs.Refusing.{passed_on, refused_entering, refused_inside}
use Rattle.session_statements.specs.Steps.{update_fault, update_fault_in, writes_key}
use Rattle.session_statements.proofs.Statements.{enters_bulk, enters_bulk_not, not_taken}
use Rattle.session_statements.proofs.asking.enter_bulk.Goals as goal

pub returns-in_err-enter-clause-call : goal.returns-in_err-enter-clause-call
returns-in_err-enter-clause-call g c = passed_call c.from_residual.ensures.1 (enters_bulk_not g.K.Keeper.moment c.args.statement.now c.in_err-enter.ensures.call)

pub returns-in_err-enter-clause-refused : goal.returns-in_err-enter-clause-refused
returns-in_err-enter-clause-refused g c =
    passed_on (λ e. IsRefused (pending_fault c.args.session.now) (update_fault c.args.statement.now c.args.session.now) c.args.session.now e c.enter.new.session) c.from_residual.result c.from_residual.ensures.1
    (refused_entering c.in_err-enter.ensures.refused)

pub returns-in-Some-clause-call : goal.returns-in-Some-clause-call
returns-in-Some-clause-call g c =
    not_taken g.K.Keeper.moment c.args.statement.now (ap (λ (m : Mapped). update_fault_in m c.args.statement.now) (sym c.mapping.ensures) ∙ sym c.in-Some.ensures.fault) c.in-Some.ensures.own c.in_ok-enter.ensures.call

pub returns-in-Some-clause-refused : goal.returns-in-Some-clause-refused
returns-in-Some-clause-refused g c =
    refused_inside (update_fault c.args.statement.now) c.args.session.now c.enter.new.session c.enter.new.session c.in_ok-enter.ensures.entered c.in_ok-enter.ensures.well
    (ap (λ (m : Mapped). update_fault_in m c.args.statement.now) (sym c.mapping.ensures) ∙ sym c.in-Some.ensures.fault) refl

pub returns-in-None-clause-call : goal.returns-in-None-clause-call
returns-in-None-clause-call g c =
    enters_bulk g.K.Keeper.moment c.args.statement.now (ap (λ (m : Mapped). update_fault_in m c.args.statement.now) (sym c.mapping.ensures) ∙ sym c.in-None.ensures.fault) c.in_ok-enter.ensures.call

pub returns-in-None-clause-spares : goal.returns-in-None-clause-spares
returns-in-None-clause-spares g c = ap (λ (m : Mapped). writes_key m.schema c.args.statement.now) (sym c.mapping.ensures) ∙ c.in-None.ensures.spares refl
