use Rattle.std.proofs.Common.{◌≡◌, None, refl, sym, ◌∙◌, rules}
use Rattle.keeper_core.specs.Beside.{by_own}
use Rattle.keeper_core.specs.Programs.{◌>>=◌, give}
use Rattle.session_calls.proofs.Joining.{err_call, passed_call, then_call}
use Rattle.session_calls.proofs.Refusing.{passed_on}
use Rattle.session_loads.specs.Asking.{cell_fault}
use Rattle.session_loads.specs.Reads.{fill_cell, tell_cell, value_in}
use Rattle.session_loads.specs.Refusals.{EarlyHere, FaultHere, IsRefusedCells, IsRefusedHere, ThenHere}
use Rattle.session_loads.proofs.CallLemmas.{cleared, faulted, no_room, tells}
use Rattle.session_loads.proofs.cells.tell_cell.Goals as goal

pub returns-in-Some-clause-call : goal.returns-in-Some-clause-call
unfolding tell_cell
returns-in-Some-clause-call g c =
    faulted g.K.Keeper.moment (cell_fault c.args.object c.args.attr) (λ u. (fill_cell c.args.object c.args.attr >>= λ u. by_own (λ session. give (value_in c.args.object c.args.attr session)))) c.in-Some.ensures.fault c.in-Some.ensures.own c.requires.in_step

pub returns-in-Some-clause-refused : goal.returns-in-Some-clause-refused
returns-in-Some-clause-refused g c = FaultHere (sym c.in-Some.ensures.fault) refl

pub fill_cell-requires : goal.fill_cell-requires
fill_cell-requires g c =
    let none : c.cell_fault.result ≡ None = search rules in
    record { in_step = c.requires.in_step; inside = c.requires.inside; object = c.requires.object; attr = c.requires.attr; held = c.cell_fault.ensures.held none }

pub returns-in_err-fill_cell-clause-call : goal.returns-in_err-fill_cell-clause-call
unfolding tell_cell
returns-in_err-fill_cell-clause-call g c =
    let none : c.cell_fault.result ≡ None = search rules in
    passed_call c.from_residual.ensures.1
    (cleared g.K.Keeper.moment (cell_fault c.args.object c.args.attr) (λ u. (fill_cell c.args.object c.args.attr >>= λ u. by_own (λ session. give (value_in c.args.object c.args.attr session)))) (sym c.cell_fault.ensures.fault ∙ none) c.requires.in_step
    (err_call (λ u. by_own (λ session. give (value_in c.args.object c.args.attr session))) c.in_err-fill_cell.ensures.call))

pub returns-in_err-fill_cell-clause-refused : goal.returns-in_err-fill_cell-clause-refused
returns-in_err-fill_cell-clause-refused g c =
    passed_on
    (λ e. IsRefusedHere (cell_fault c.args.object c.args.attr c.args.session.now) (IsRefusedCells c.args.object) c.args.session.now (g.K.Keeper.moment c.args.keeper.now) e c.fill_cell.new.session (g.K.Keeper.moment c.fill_cell.new.keeper))
    c.from_residual.result c.from_residual.ensures.1 (ThenHere c.in_err-fill_cell.ensures.refused)

pub returns-in_err-value_in-clause-call : goal.returns-in_err-value_in-clause-call
unfolding tell_cell
returns-in_err-value_in-clause-call g c =
    let none : c.cell_fault.result ≡ None = search rules in
    passed_call c.from_residual-in_err-value_in.ensures.1
    (cleared g.K.Keeper.moment (cell_fault c.args.object c.args.attr) (λ u. (fill_cell c.args.object c.args.attr >>= λ u. by_own (λ session. give (value_in c.args.object c.args.attr session)))) (sym c.cell_fault.ensures.fault ∙ none) c.requires.in_step
    (then_call (λ u. by_own (λ session. give (value_in c.args.object c.args.attr session))) c.in_ok-fill_cell.ensures.call (no_room g.K.Keeper.moment refl)))

pub returns-in_err-value_in-clause-refused : goal.returns-in_err-value_in-clause-refused
returns-in_err-value_in-clause-refused g c =
    passed_on
    (λ e. IsRefusedHere (cell_fault c.args.object c.args.attr c.args.session.now) (IsRefusedCells c.args.object) c.args.session.now (g.K.Keeper.moment c.args.keeper.now) e c.fill_cell.new.session (g.K.Keeper.moment c.fill_cell.new.keeper))
    c.from_residual-in_err-value_in.result c.from_residual-in_err-value_in.ensures.1 (EarlyHere refl)

pub returns-clause-call : goal.returns-clause-call
unfolding tell_cell
returns-clause-call g c =
    let none : c.cell_fault.result ≡ None = search rules in
    cleared g.K.Keeper.moment (cell_fault c.args.object c.args.attr) (λ u. (fill_cell c.args.object c.args.attr >>= λ u. by_own (λ session. give (value_in c.args.object c.args.attr session)))) (sym c.cell_fault.ensures.fault ∙ none) c.requires.in_step
    (then_call (λ u. by_own (λ session. give (value_in c.args.object c.args.attr session))) c.in_ok-fill_cell.ensures.call (tells g.K.Keeper.moment (value_in c.args.object c.args.attr) c.in_ok-value_in.ensures c.in_ok-fill_cell.ensures.call.kept.in_step))
