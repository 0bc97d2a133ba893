use Rattle.relations.specs.Calls.{end_of, is_of_collection}
use Rattle.session_calls.proofs.Joining.{err_call, passed_call, then_call}
use Rattle.session_calls.proofs.Refusing.{call_calm, passed_on}
use Rattle.session_links.proofs.Acting.{end_still, form_still, place_still}
use Rattle.session_acts.specs.Flush.{flush}
use Rattle.keeper_core.specs.Programs.{◌>>=◌}
use Rattle.session_loads.specs.Asking.{asked_fault, members_fault}
use Rattle.session_loads.specs.Reads.{read_attached}
use Rattle.session_loads.specs.Refusals.{IsRefusedHere, IsRefusedLink, IsRefusedWriting, NotWritten, ThenHere}
use Rattle.session_loads.proofs.CallLemmas.{asks, asks_not, deep_after}
use Rattle.session_loads.proofs.RefusedLemmas.{after_flush, asking_refused, fetched, thens_here}
use Rattle.session_loads.proofs.collections.read_members.Goals as goal

pub returns-in_err-ask_change-clause-call : goal.returns-in_err-ask_change-clause-call
returns-in_err-ask_change-clause-call g c =
    passed_call c.from_residual.ensures.1
    (asks_not g.K.Keeper.moment (asked_fault c.args.owner c.args.place c.args.call) (λ u. (flush >>= λ u. read_attached c.args.owner c.args.place c.args.call)) c.in_err-ask_change.ensures c.requires.in_step)

pub returns-in_err-ask_change-clause-refused : goal.returns-in_err-ask_change-clause-refused
returns-in_err-ask_change-clause-refused g c =
    passed_on
    (λ e. IsRefusedHere (asked_fault c.args.owner c.args.place c.args.call c.args.session.now) (IsRefusedWriting (members_fault c.args.owner c.args.place c.args.call) (IsRefusedLink c.args.owner)) c.args.session.now (g.K.Keeper.moment c.args.keeper.now) e
    c.args.session.now (g.K.Keeper.moment c.args.keeper.now)) c.from_residual.result c.from_residual.ensures.1
    (asking_refused (IsRefusedWriting (members_fault c.args.owner c.args.place c.args.call) (IsRefusedLink c.args.owner)) (asked_fault c.args.owner c.args.place c.args.call c.args.session.now) c.args.session.now c.args.session.now (g.K.Keeper.moment c.args.keeper.now)
    _ c.in_err-ask_change.ensures)

pub returns-in_err-flush-clause-call : goal.returns-in_err-flush-clause-call
returns-in_err-flush-clause-call g c =
    passed_call c.from_residual-in_err-flush.ensures.1
    (asks g.K.Keeper.moment (asked_fault c.args.owner c.args.place c.args.call) (λ u. (flush >>= λ u. read_attached c.args.owner c.args.place c.args.call)) c.in_ok-ask_change.ensures.0 c.requires.in_step
    (err_call (λ u. read_attached c.args.owner c.args.place c.args.call) c.in_err-flush.ensures.call))

pub returns-in_err-flush-clause-refused : goal.returns-in_err-flush-clause-refused
returns-in_err-flush-clause-refused g c =
    passed_on
    (λ e. IsRefusedHere (asked_fault c.args.owner c.args.place c.args.call c.args.session.now) (IsRefusedWriting (members_fault c.args.owner c.args.place c.args.call) (IsRefusedLink c.args.owner)) c.args.session.now (g.K.Keeper.moment c.args.keeper.now) e
    c.flush.new.session (g.K.Keeper.moment c.flush.new.keeper)) c.from_residual-in_err-flush.result c.from_residual-in_err-flush.ensures.1 (ThenHere (NotWritten c.in_err-flush.ensures.refused))

pub read_attached-requires : goal.read_attached-requires
read_attached-requires g c =
    let on = c.in_ok-flush.ensures.call.kept.same in
    record {
      in_step = c.in_ok-flush.ensures.call.kept.in_step;
      inside = deep_after c.args.session.now.frames.scopes c.flush.new.session.frames.scopes c.in_ok-flush.ensures.scopes c.requires.inside;
      owner = (on.there c.args.owner c.requires.owner).0;
      place = place_still c.args.session.now c.flush.new.session c.args.owner c.args.place on c.requires.owner c.requires.place;
      form = form_still c.args.session.now c.flush.new.session c.args.owner c.args.place (is_of_collection c.args.call) on c.requires.owner c.requires.form;
      end = end_still c.args.session.now c.flush.new.session (end_of c.args.call) on c.requires.end;
    }

pub returns-clause-call : goal.returns-clause-call
returns-clause-call g c =
    asks g.K.Keeper.moment (asked_fault c.args.owner c.args.place c.args.call) (λ u. (flush >>= λ u. read_attached c.args.owner c.args.place c.args.call)) c.in_ok-ask_change.ensures.0 c.requires.in_step
    (then_call (λ u. read_attached c.args.owner c.args.place c.args.call) c.in_ok-flush.ensures.call c.read_attached.ensures.call)

pub returns-clause-known : goal.returns-clause-known
returns-clause-known g c =
    fetched c.args.owner c.args.place c.args.session.now c.flush.new.session c.read_attached.new.session c.read_attached.result c.in_ok-flush.ensures.flushed c.read_attached.ensures.left

pub returns-clause-refused : goal.returns-clause-refused
returns-clause-refused g c =
    thens_here (IsRefusedWriting (members_fault c.args.owner c.args.place c.args.call) (IsRefusedLink c.args.owner)) (asked_fault c.args.owner c.args.place c.args.call c.args.session.now) c.args.session.now c.read_attached.new.session (g.K.Keeper.moment c.args.keeper.now)
    (g.K.Keeper.moment c.read_attached.new.keeper) c.read_attached.result
    (after_flush (IsRefusedLink c.args.owner) (members_fault c.args.owner c.args.place c.args.call) c.args.session.now c.flush.new.session c.read_attached.new.session (g.K.Keeper.moment c.args.keeper.now) (g.K.Keeper.moment c.flush.new.keeper)
    (g.K.Keeper.moment c.read_attached.new.keeper) c.read_attached.result c.in_ok-flush.ensures.flushed (call_calm c.in_ok-flush.ensures.call) c.read_attached.ensures.refused)
