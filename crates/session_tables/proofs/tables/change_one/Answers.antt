use Rattle.std.proofs.Common.{◌≡◌, Bool, true, Ok, Err, refl, subst}
use Rattle.base_core.specs.declared.refusal.Refusal.TheVariants.{Memory}
use Rattle.keeper_core.specs.Programs.{ends_early}
use Rattle.keeper_core.specs.declared.sent.Sent.{Sent}
use Rattle.session_scopes.specs.SessionState.{with_note}
use Rattle.keeper_core.specs.Keeping.{IsCall}
use Rattle.session_tables.specs.Steps.{change_in_store}
use Rattle.session_calls.proofs.Noting.{alike_noted}
use Rattle.session_calls.proofs.Joining.{passed_call}
use Rattle.session_calls.proofs.Refusing.{passed_on}
use Rattle.session_tables.proofs.Changing.{alike_still, change_ended, change_none, change_sent}
use Rattle.session_tables.proofs.tables.change_one.Goals as goal

pub returns-in_err-has_changed-clause-call : goal.returns-in_err-has_changed-clause-call
returns-in_err-has_changed-clause-call g c = passed_call c.from_residual.ensures.1 (change_ended g.K.Keeper.moment c.args.change c.args.table c.in_err-has_changed.ensures)

-- it changed, and the session has it noted
pub returns-then-has_changed-clause-call : goal.returns-then-has_changed-clause-call
returns-then-has_changed-clause-call g c =
    change_sent g.K.Keeper.moment c.args.change c.args.table {r = Ok tt} (g.met.K.Keeper.coherent c.args.keeper.now) c.requires.in_step c.requires.outside
    (subst (λ (b : Bool). IsCall g.K.Keeper.moment (change_in_store c.args.change c.args.table) 0 c.args.keeper.now (Ok b) c.store_changes.new.keeper) c.if-has_changed.true c.in_ok-has_changed.ensures)
    (subst (λ (statement : Sent). c.note.new.self ≡ with_note statement c.args.session.now) c.statement_of.ensures c.in_ok-note.ensures.ok) tt tt

pub returns-then-has_changed-clause-alike : goal.returns-then-has_changed-clause-alike
returns-then-has_changed-clause-alike g c = alike_noted c.args.session.now c.note.new.self c.statement_of.result c.in_ok-note.ensures.ok

-- there was no memory for the note
pub returns-in_err-note-clause-call : goal.returns-in_err-note-clause-call
returns-in_err-note-clause-call g c =
    passed_call c.from_residual-in_err-note.ensures.1
    (change_sent g.K.Keeper.moment c.args.change c.args.table {r = Err Memory} (g.met.K.Keeper.coherent c.args.keeper.now) c.requires.in_step c.requires.outside
    (subst (λ (b : Bool). IsCall g.K.Keeper.moment (change_in_store c.args.change c.args.table) 0 c.args.keeper.now (Ok b) c.store_changes.new.keeper) c.if-has_changed.true c.in_ok-has_changed.ensures)
    tt c.in_err-note.ensures.err refl)

pub returns-in_err-note-clause-alike : goal.returns-in_err-note-clause-alike
returns-in_err-note-clause-alike g c = alike_still c.args.session.now c.note.new.self c.in_err-note.ensures.err

pub returns-in_err-note-clause-stops : goal.returns-in_err-note-clause-stops
returns-in_err-note-clause-stops g c = passed_on (λ e. ends_early e ≡ true) c.from_residual-in_err-note.result c.from_residual-in_err-note.ensures.1 refl

-- it did not change
pub returns-clause-call : goal.returns-clause-call
returns-clause-call g c =
    change_none g.K.Keeper.moment c.args.change c.args.table (g.met.K.Keeper.coherent c.args.keeper.now) c.requires.in_step c.requires.outside
    (subst (λ (b : Bool). IsCall g.K.Keeper.moment (change_in_store c.args.change c.args.table) 0 c.args.keeper.now (Ok b) c.store_changes.new.keeper) c.if-has_changed.false c.in_ok-has_changed.ensures)

pub returns-in_err-has_changed-clause-stops : goal.returns-in_err-has_changed-clause-stops
returns-in_err-has_changed-clause-stops g c = passed_on (λ e. ends_early e ≡ true) c.from_residual.result c.from_residual.ensures.1 c.in_err-has_changed.ensures.stops
