use Rattle.std.proofs.Common.{◌≡◌, Ok, Err, refl, ap, subst}
use Rattle.base_core.specs.declared.refusal.Refusal.TheVariants.{Memory}
use Rattle.session_calls.specs.Steps.{pending_fault}
use Rattle.session_loads.specs.Asking.{link_fault}
use Rattle.session_loads.specs.Refusals.{IsRefusedLink}
use Rattle.session_perform.proofs.Refusing.{full_reading}
use Rattle.session_calls.proofs.Refusing.{passed_on}
use Rattle.command_names.specs.Standing.{IsOfDeclared, IsThere}
use Rattle.command_resolve.specs.declared.resolved.Resolved.TheVariants as resolved
use Rattle.session_perform.specs.Refused.{IsRefusedLine}
use Rattle.command_resolve.specs.declared.answer.Answer.TheVariants as answer
use Rattle.session_perform.specs.Performing.{link_shown}
use Rattle.session_perform.proofs.Performed.{passed, tells_then, untold_then}
use Rattle.session_perform.proofs.links.bind_related.Goals as goal

pub returns-in_err-related-clause-performed : goal.returns-in_err-related-clause-performed
returns-in_err-related-clause-performed g c = passed g.K.Keeper.moment c.from_residual.ensures.1 (untold_then g.K.Keeper.moment (λ related session. answer.Bind c.args.name (link_shown session.graph related)) c.in_err-related.ensures.call)

pub returns-in_err-thing-clause-performed : goal.returns-in_err-thing-clause-performed
returns-in_err-thing-clause-performed g c =
    passed g.K.Keeper.moment c.from_residual-in_err-thing.ensures.1 (tells_then g.K.Keeper.moment (λ related session. answer.Bind c.args.name (link_shown session.graph related)) (Err Memory) tt tt refl c.in_ok-related.ensures.call)

pub returns-clause-performed : goal.returns-clause-performed
returns-clause-performed g c =
    tells_then g.K.Keeper.moment (λ related session. answer.Bind c.args.name (link_shown session.graph related)) (Ok (answer.Bind c.args.name c.in_ok-thing.thing)) (ap (λ thing. answer.Bind c.args.name thing) c.in_ok-thing.ensures.shown) (subst (IsThere c.read_related.new.session.graph c.read_related.new.session.drawn.drawn) c.in_ok-thing.ensures.shown c.in_ok-thing.ensures.there, subst (IsOfDeclared c.read_related.new.session.mapping) c.in_ok-thing.ensures.shown c.in_ok-thing.ensures.declared) tt c.in_ok-related.ensures.call

pub returns-in_err-related-clause-refused : goal.returns-in_err-related-clause-refused
returns-in_err-related-clause-refused g c = λ rules.
    passed_on (λ e. IsRefusedLine rules (resolved.Related c.args.name c.args.object c.args.relation) c.args.session.now (g.K.Keeper.moment c.args.keeper.now) e c.read_related.new.session (g.K.Keeper.moment c.read_related.new.keeper)) c.from_residual.result c.from_residual.ensures.1 c.in_err-related.ensures.refused

pub returns-in_err-thing-clause-refused : goal.returns-in_err-thing-clause-refused
returns-in_err-thing-clause-refused g c = λ rules.
    full_reading (pending_fault c.args.session.now) (link_fault c.args.object c.args.relation c.args.session.now) (link_fault c.args.object c.args.relation) (IsRefusedLink c.args.object)
    c.args.session.now c.read_related.new.session (g.K.Keeper.moment c.args.keeper.now) (g.K.Keeper.moment c.read_related.new.keeper) c.from_residual-in_err-thing.result
    (passed_on (λ e. e ≡ Memory) c.from_residual-in_err-thing.result c.from_residual-in_err-thing.ensures.1 refl)
