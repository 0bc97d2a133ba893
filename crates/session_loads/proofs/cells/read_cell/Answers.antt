use Rattle.session_calls.specs.Steps.{pending_fault}
use Rattle.session_calls.proofs.Acting.{attr_still}
use Rattle.session_calls.proofs.Joining.{err_call, passed_call, then_call}
use Rattle.session_calls.proofs.Refusing.{call_calm, passed_on, refused_entering}
use Rattle.session_loads.specs.Asking.{cell_fault}
use Rattle.session_loads.specs.Reads.{read_cell, tell_cell}
use Rattle.session_loads.specs.Refusals.{IsRefusedCells, IsRefusedReading, Unread}
use Rattle.session_loads.proofs.RefusedLemmas.{reading_refused}
use Rattle.session_loads.proofs.cells.read_cell.Goals as goal

pub tell_cell-requires : goal.tell_cell-requires
tell_cell-requires g c = record {
  in_step = c.in_ok-enter.ensures.call.kept.in_step;
  inside = c.in_ok-enter.ensures.inside;
  object = (c.in_ok-enter.ensures.call.kept.same.there c.args.object c.requires.object).0;
  attr = attr_still c.args.session.now c.enter.new.session c.args.object c.args.attr c.in_ok-enter.ensures.call.kept.same c.requires.object c.requires.attr;
}

pub returns-in_err-enter-clause-call : goal.returns-in_err-enter-clause-call
unfolding read_cell
returns-in_err-enter-clause-call g c = passed_call c.from_residual.ensures.1 (err_call (λ u. tell_cell c.args.object c.args.attr) c.in_err-enter.ensures.call)

pub returns-clause-call : goal.returns-clause-call
unfolding read_cell
returns-clause-call g c = then_call (λ u. tell_cell c.args.object c.args.attr) c.in_ok-enter.ensures.call c.tell_cell.ensures.call

pub returns-in_err-enter-clause-refused : goal.returns-in_err-enter-clause-refused
returns-in_err-enter-clause-refused g c =
    passed_on
    (λ e. IsRefusedReading (pending_fault c.args.session.now) (cell_fault c.args.object c.args.attr c.args.session.now) (IsRefusedCells c.args.object) c.args.session.now (g.K.Keeper.moment c.args.keeper.now) e c.enter.new.session
    (g.K.Keeper.moment c.enter.new.keeper)) c.from_residual.result c.from_residual.ensures.1 (Unread (refused_entering c.in_err-enter.ensures.refused))

pub returns-clause-refused : goal.returns-clause-refused
returns-clause-refused g c =
    reading_refused (IsRefusedCells c.args.object) (cell_fault c.args.object c.args.attr) c.args.session.now c.enter.new.session c.tell_cell.new.session (g.K.Keeper.moment c.args.keeper.now) (g.K.Keeper.moment c.enter.new.keeper)
    (g.K.Keeper.moment c.tell_cell.new.keeper) c.tell_cell.result c.in_ok-enter.ensures.entered c.in_ok-enter.ensures.well (call_calm c.in_ok-enter.ensures.call) c.tell_cell.ensures.refused
