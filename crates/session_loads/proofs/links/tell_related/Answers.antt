use Rattle.std.proofs.Common.{◌≡◌, None, refl, sym, ◌∙◌, rules}
use Rattle.keeper_core.specs.Beside.{by_own}
use Rattle.keeper_core.specs.Programs.{◌>>=◌, give}
use Rattle.session_calls.proofs.Joining.{err_call, passed_call, then_call}
use Rattle.session_calls.proofs.Refusing.{passed_on}
use Rattle.session_links.proofs.Acting.{place_still}
use Rattle.session_loads.specs.Asking.{link_fault}
use Rattle.session_loads.specs.Reads.{fetch_link, related_in, tell_related}
use Rattle.session_loads.specs.Refusals.{EarlyHere, FaultHere, IsRefusedHere, IsRefusedLink, IsRefusedWriting, ThenHere}
use Rattle.session_loads.proofs.CallLemmas.{cleared, faulted, no_room, tells}
use Rattle.session_loads.proofs.links.tell_related.Goals as goal

pub returns-in-Some-clause-call : goal.returns-in-Some-clause-call
unfolding tell_related
returns-in-Some-clause-call g c =
    faulted g.K.Keeper.moment (link_fault c.args.object c.args.place) (λ u. (fetch_link c.args.object c.args.place >>= λ u. by_own (λ session. give (related_in c.args.object c.args.place session)))) c.in-Some.ensures.fault c.in-Some.ensures.own c.requires.in_step

pub returns-in-Some-clause-refused : goal.returns-in-Some-clause-refused
returns-in-Some-clause-refused g c = FaultHere (sym c.in-Some.ensures.fault) refl

pub returns-in_err-fetch_link-clause-call : goal.returns-in_err-fetch_link-clause-call
unfolding tell_related
returns-in_err-fetch_link-clause-call g c =
    let none : c.link_fault.result ≡ None = search rules in
    passed_call c.from_residual.ensures.1
    (cleared g.K.Keeper.moment (link_fault c.args.object c.args.place) (λ u. (fetch_link c.args.object c.args.place >>= λ u. by_own (λ session. give (related_in c.args.object c.args.place session)))) (sym c.link_fault.ensures.fault ∙ none) c.requires.in_step
    (err_call (λ u. by_own (λ session. give (related_in c.args.object c.args.place session))) c.in_err-fetch_link.ensures.call))

pub returns-in_err-fetch_link-clause-refused : goal.returns-in_err-fetch_link-clause-refused
returns-in_err-fetch_link-clause-refused g c =
    passed_on
    (λ e. IsRefusedHere (link_fault c.args.object c.args.place c.args.session.now) (IsRefusedWriting (link_fault c.args.object c.args.place) (IsRefusedLink c.args.object)) c.args.session.now (g.K.Keeper.moment c.args.keeper.now) e
    c.fetch_link.new.session (g.K.Keeper.moment c.fetch_link.new.keeper)) c.from_residual.result c.from_residual.ensures.1 (ThenHere c.in_err-fetch_link.ensures.refused)

pub related_in-requires : goal.related_in-requires
related_in-requires g c =
    let on = c.in_ok-fetch_link.ensures.call.kept.same in
    record { object = (on.there c.args.object c.requires.object).0; place = place_still c.args.session.now c.fetch_link.new.session c.args.object c.args.place on c.requires.object c.requires.place }

pub returns-in_err-related_in-clause-call : goal.returns-in_err-related_in-clause-call
unfolding tell_related
returns-in_err-related_in-clause-call g c =
    let none : c.link_fault.result ≡ None = search rules in
    passed_call c.from_residual-in_err-related_in.ensures.1
    (cleared g.K.Keeper.moment (link_fault c.args.object c.args.place) (λ u. (fetch_link c.args.object c.args.place >>= λ u. by_own (λ session. give (related_in c.args.object c.args.place session)))) (sym c.link_fault.ensures.fault ∙ none) c.requires.in_step
    (then_call (λ u. by_own (λ session. give (related_in c.args.object c.args.place session))) c.in_ok-fetch_link.ensures.call (no_room g.K.Keeper.moment refl)))

pub returns-in_err-related_in-clause-refused : goal.returns-in_err-related_in-clause-refused
returns-in_err-related_in-clause-refused g c =
    passed_on
    (λ e. IsRefusedHere (link_fault c.args.object c.args.place c.args.session.now) (IsRefusedWriting (link_fault c.args.object c.args.place) (IsRefusedLink c.args.object)) c.args.session.now (g.K.Keeper.moment c.args.keeper.now) e
    c.fetch_link.new.session (g.K.Keeper.moment c.fetch_link.new.keeper)) c.from_residual-in_err-related_in.result c.from_residual-in_err-related_in.ensures.1 (EarlyHere refl)

pub returns-clause-call : goal.returns-clause-call
unfolding tell_related
returns-clause-call g c =
    let none : c.link_fault.result ≡ None = search rules in
    cleared g.K.Keeper.moment (link_fault c.args.object c.args.place) (λ u. (fetch_link c.args.object c.args.place >>= λ u. by_own (λ session. give (related_in c.args.object c.args.place session)))) (sym c.link_fault.ensures.fault ∙ none) c.requires.in_step
    (then_call (λ u. by_own (λ session. give (related_in c.args.object c.args.place session))) c.in_ok-fetch_link.ensures.call
    (tells g.K.Keeper.moment (related_in c.args.object c.args.place) c.in_ok-related_in.ensures.told c.in_ok-fetch_link.ensures.call.kept.in_step))
