use Rattle.std.proofs.Common.{None, refl, ◌∙◌}
use Rattle.session_calls.specs.Refusals.{Before, Early, IsRefused}
use Rattle.session_calls.proofs.Joining.{passed_call}
use Rattle.session_calls.proofs.Refusing.{early_refused, passed_on}
use Rattle.session_tables.specs.Steps.{transaction_fault}
use Rattle.session_tables.proofs.Changing.{all_change, change_refused, no_order, open_depth}
use Rattle.session_tables.proofs.tables.change_all.Goals as goal

pub returns-then-depth-gt0-clause-call : goal.returns-then-depth-gt0-clause-call
returns-then-depth-gt0-clause-call g c = change_refused g.K.Keeper.moment c.args.change c.depth.result c.depth.ensures c.if-depth-gt0.true c.requires.in_step

pub returns-then-depth-gt0-clause-refused : goal.returns-then-depth-gt0-clause-refused
returns-then-depth-gt0-clause-refused g c = Before (open_depth c.args.session.now c.depth.result c.depth.ensures c.if-depth-gt0.true) refl

pub returns-in_err-order-clause-call : goal.returns-in_err-order-clause-call
returns-in_err-order-clause-call g c = passed_call c.from_residual.ensures.1 (no_order g.K.Keeper.moment c.args.change c.requires.in_step)

pub returns-in_err-order-clause-refused : goal.returns-in_err-order-clause-refused
returns-in_err-order-clause-refused g c =
    passed_on (λ e. IsRefused (transaction_fault c.args.session.now) None c.args.session.now e c.args.session.now) c.from_residual.result c.from_residual.ensures.1
    (Early refl)

pub returns-clause-call : goal.returns-clause-call
returns-clause-call g c =
    all_change g.K.Keeper.moment c.args.change c.depth.result c.depth.ensures c.if-depth-gt0.false c.requires.in_step (c.as_slice.ensures.value ∙ c.in_ok-order.ensures.order) c.change_each.ensures.call

pub returns-clause-refused : goal.returns-clause-refused
returns-clause-refused g c = early_refused (transaction_fault c.args.session.now) None c.args.session.now c.change_each.new.session c.change_each.result c.change_each.ensures.stops
