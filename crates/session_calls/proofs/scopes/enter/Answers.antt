use Rattle.std.proofs.Common.{Bool, None, refl, sym, ap, ◌∙◌, arith}
use Rattle.base_core.specs.declared.refusal.Refusal.TheVariants.{PendingRollbackError}
use Rattle.session_calls.specs.Parts.{fault_if}
use Rattle.session_calls.specs.Refusals.{Before}
use Rattle.session_calls.specs.Steps.{pending_fault}
use Rattle.session_calls.proofs.Acting.{comes_in, no_scope_open, some_scope_open, stays_in, waits}
use Rattle.session_calls.proofs.Refusing.{early_refused, entered_begun, entered_still}
use Rattle.session_calls.proofs.scopes.enter.Goals as goal

pub returns-then-is_failed-clause-call : goal.returns-then-is_failed-clause-call
returns-then-is_failed-clause-call g c = waits g.K.Keeper.moment (sym c.is_failed.ensures ∙ c.if-is_failed.true) c.requires.in_step

pub returns-then-is_in_transaction-clause-call : goal.returns-then-is_in_transaction-clause-call
returns-then-is_in_transaction-clause-call g c = stays_in g.K.Keeper.moment (sym c.is_failed.ensures ∙ c.if-is_failed.false) (sym c.is_in_transaction.ensures ∙ c.if-is_in_transaction.true) c.requires.in_step

pub returns-then-is_in_transaction-clause-inside : goal.returns-then-is_in_transaction-clause-inside
returns-then-is_in_transaction-clause-inside g c = omega (arith, some_scope_open c.args.session.now.frames.scopes (sym c.is_in_transaction.ensures ∙ c.if-is_in_transaction.true))

pub returns-then-is_in_transaction-clause-well : goal.returns-then-is_in_transaction-clause-well
returns-then-is_in_transaction-clause-well g c = sym c.is_failed.ensures ∙ c.if-is_failed.false

pub begin_transaction-requires : goal.begin_transaction-requires
begin_transaction-requires g c = record {
  in_step = c.requires.in_step;
  outside = no_scope_open c.args.session.now.frames.scopes (sym c.is_in_transaction.ensures ∙ c.if-is_in_transaction.false);
  well = sym c.is_failed.ensures ∙ c.if-is_failed.false;
}

pub returns-clause-call : goal.returns-clause-call
returns-clause-call g c = comes_in g.K.Keeper.moment (sym c.is_failed.ensures ∙ c.if-is_failed.false) (sym c.is_in_transaction.ensures ∙ c.if-is_in_transaction.false) c.requires.in_step c.begin_transaction.ensures.call

pub returns-then-is_failed-clause-refused : goal.returns-then-is_failed-clause-refused
returns-then-is_failed-clause-refused g c = Before (ap (λ (b : Bool). fault_if b PendingRollbackError) (sym c.is_failed.ensures ∙ c.if-is_failed.true)) refl

pub returns-then-is_in_transaction-clause-entered : goal.returns-then-is_in_transaction-clause-entered
returns-then-is_in_transaction-clause-entered g c = entered_still c.args.session.now (sym c.is_in_transaction.ensures ∙ c.if-is_in_transaction.true)

pub returns-clause-entered : goal.returns-clause-entered
returns-clause-entered g c = entered_begun c.args.session.now c.begin_transaction.new.session c.begin_transaction.result (sym c.is_in_transaction.ensures ∙ c.if-is_in_transaction.false) c.begin_transaction.ensures.begun

pub returns-clause-refused : goal.returns-clause-refused
returns-clause-refused g c = early_refused (pending_fault c.args.session.now) None c.args.session.now c.begin_transaction.new.session c.begin_transaction.result c.begin_transaction.ensures.stops
