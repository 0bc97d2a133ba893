use Rattle.session_calls.proofs.Joining.{passed_call}
use Rattle.session_calls.proofs.Refusing.{passed_on}
use Rattle.session_loads.specs.Asking.{asked_fault, link_fault, members_fault}
use Rattle.session_loads.specs.Reads.{fill_attached}
use Rattle.session_loads.specs.Refusals.{IsRefusedHere, IsRefusedLink}
use Rattle.session_loads.proofs.CallLemmas.{asks, asks_not}
use Rattle.session_loads.proofs.RefusedLemmas.{first_refused, second_refused}
use Rattle.session_loads.proofs.collections.read_attached.Goals as goal

pub returns-in_err-ask_change-clause-call : goal.returns-in_err-ask_change-clause-call
returns-in_err-ask_change-clause-call g c =
    passed_call c.from_residual.ensures.1 (asks_not g.K.Keeper.moment (asked_fault c.args.owner c.args.place c.args.call) (λ u. fill_attached c.args.owner c.args.place) c.in_err-ask_change.ensures c.requires.in_step)

pub returns-in_err-ask_change-clause-refused : goal.returns-in_err-ask_change-clause-refused
returns-in_err-ask_change-clause-refused g c =
    passed_on
    (λ e. IsRefusedHere (members_fault c.args.owner c.args.place c.args.call c.args.session.now) (IsRefusedLink c.args.owner) c.args.session.now (g.K.Keeper.moment c.args.keeper.now) e c.args.session.now (g.K.Keeper.moment c.args.keeper.now))
    c.from_residual.result c.from_residual.ensures.1
    (first_refused (IsRefusedLink c.args.owner) (asked_fault c.args.owner c.args.place c.args.call c.args.session.now) (link_fault c.args.owner c.args.place c.args.session.now) c.args.session.now c.args.session.now (g.K.Keeper.moment c.args.keeper.now) _
    c.in_err-ask_change.ensures)

pub returns-clause-call : goal.returns-clause-call
returns-clause-call g c =
    asks g.K.Keeper.moment (asked_fault c.args.owner c.args.place c.args.call) (λ u. fill_attached c.args.owner c.args.place) c.in_ok-ask_change.ensures.0 c.requires.in_step c.fill_attached.ensures.call

pub returns-clause-refused : goal.returns-clause-refused
returns-clause-refused g c =
    second_refused (IsRefusedLink c.args.owner) (asked_fault c.args.owner c.args.place c.args.call c.args.session.now) (link_fault c.args.owner c.args.place c.args.session.now) c.args.session.now c.fill_attached.new.session (g.K.Keeper.moment c.args.keeper.now)
    (g.K.Keeper.moment c.fill_attached.new.keeper) c.fill_attached.result c.in_ok-ask_change.ensures.0 c.fill_attached.ensures.refused
