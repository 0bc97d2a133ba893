use Rattle.session_calls.proofs.Joining.{err_call, passed_call, then_call}
use Rattle.session_calls.proofs.Refusing.{call_calm, passed_on}
use Rattle.session_links.proofs.Acting.{place_still}
use Rattle.session_loads.specs.Asking.{link_fault}
use Rattle.session_loads.specs.Reads.{fill_attached}
use Rattle.session_loads.specs.Refusals.{IsRefusedLink, IsRefusedWriting, NotWritten}
use Rattle.session_loads.proofs.CallLemmas.{deep_after}
use Rattle.session_loads.proofs.RefusedLemmas.{after_flush}
use Rattle.session_loads.proofs.links.write_and_fill.Goals as goal

pub returns-in_err-flush-clause-call : goal.returns-in_err-flush-clause-call
returns-in_err-flush-clause-call g c = passed_call c.from_residual.ensures.1 (err_call (λ u. fill_attached c.args.object c.args.place) c.in_err-flush.ensures.call)

pub returns-in_err-flush-clause-refused : goal.returns-in_err-flush-clause-refused
returns-in_err-flush-clause-refused g c =
    passed_on
    (λ e. IsRefusedWriting (link_fault c.args.object c.args.place) (IsRefusedLink c.args.object) c.args.session.now (g.K.Keeper.moment c.args.keeper.now) e c.flush.new.session (g.K.Keeper.moment c.flush.new.keeper))
    c.from_residual.result c.from_residual.ensures.1 (NotWritten c.in_err-flush.ensures.refused)

pub fill_attached-requires : goal.fill_attached-requires
fill_attached-requires g c =
    let on = c.in_ok-flush.ensures.call.kept.same in
    record {
      in_step = c.in_ok-flush.ensures.call.kept.in_step;
      inside = deep_after c.args.session.now.frames.scopes c.flush.new.session.frames.scopes c.in_ok-flush.ensures.scopes c.requires.inside;
      object = (on.there c.args.object c.requires.object).0;
      place = place_still c.args.session.now c.flush.new.session c.args.object c.args.place on c.requires.object c.requires.place;
    }

pub returns-clause-call : goal.returns-clause-call
returns-clause-call g c = then_call (λ u. fill_attached c.args.object c.args.place) c.in_ok-flush.ensures.call c.fill_attached.ensures.call

pub returns-clause-refused : goal.returns-clause-refused
returns-clause-refused g c =
    after_flush (IsRefusedLink c.args.object) (link_fault c.args.object c.args.place) c.args.session.now c.flush.new.session c.fill_attached.new.session (g.K.Keeper.moment c.args.keeper.now) (g.K.Keeper.moment c.flush.new.keeper)
    (g.K.Keeper.moment c.fill_attached.new.keeper) c.fill_attached.result c.in_ok-flush.ensures.flushed (call_calm c.in_ok-flush.ensures.call) c.fill_attached.ensures.refused
