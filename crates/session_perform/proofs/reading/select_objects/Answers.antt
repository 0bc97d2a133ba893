use Rattle.std.proofs.Common.{◌≡◌, None, Ok, Err, refl, ap, subst}
use Rattle.base_core.specs.declared.refusal.Refusal.TheVariants.{Memory}
use Rattle.session_calls.specs.Steps.{pending_fault}
use Rattle.session_calls.proofs.Refusing.{passed_on}
use Rattle.session_links.specs.declared.reading.Related.TheVariants.{Many}
use Rattle.session_loads.specs.Refusals.{IsRefusedQuery, no_fault}
use Rattle.command_names.specs.Standing.{IsOfDeclared, IsThere}
use Rattle.command_resolve.specs.declared.resolved.Resolved.TheVariants as resolved
use Rattle.session_perform.specs.Refused.{IsRefusedLine}
use Rattle.command_resolve.specs.declared.answer.Answer.TheVariants as answer
use Rattle.session_perform.specs.Performing.{link_shown}
use Rattle.session_perform.proofs.Performed.{passed, tells_then, untold_then}
use Rattle.session_perform.proofs.Refusing.{full_reading}
use Rattle.session_perform.proofs.reading.select_objects.Goals as goal

pub returns-in_err-objects-clause-performed : goal.returns-in_err-objects-clause-performed
returns-in_err-objects-clause-performed g c = passed g.K.Keeper.moment c.from_residual.ensures.1 (untold_then g.K.Keeper.moment (λ objects session. answer.Bind c.args.name (link_shown session.graph (Many objects))) c.in_err-objects.ensures.call)

pub returns-in_err-thing-clause-performed : goal.returns-in_err-thing-clause-performed
returns-in_err-thing-clause-performed g c =
    passed g.K.Keeper.moment c.from_residual-in_err-thing.ensures.1 (tells_then g.K.Keeper.moment (λ objects session. answer.Bind c.args.name (link_shown session.graph (Many objects))) (Err Memory) tt tt refl c.in_ok-objects.ensures.call)

pub returns-clause-performed : goal.returns-clause-performed
returns-clause-performed g c =
    tells_then g.K.Keeper.moment (λ objects session. answer.Bind c.args.name (link_shown session.graph (Many objects))) (Ok (answer.Bind c.args.name c.in_ok-thing.thing)) (ap (λ thing. answer.Bind c.args.name thing) c.in_ok-thing.ensures.shown) (subst (IsThere c.select_objects.new.session.graph c.select_objects.new.session.drawn.drawn) c.in_ok-thing.ensures.shown c.in_ok-thing.ensures.there, subst (IsOfDeclared c.select_objects.new.session.mapping) c.in_ok-thing.ensures.shown c.in_ok-thing.ensures.declared) tt c.in_ok-objects.ensures.call

pub returns-in_err-objects-clause-refused : goal.returns-in_err-objects-clause-refused
returns-in_err-objects-clause-refused g c = λ rules.
    passed_on (λ e. IsRefusedLine rules (resolved.Objects c.args.name c.args.query.now) c.args.session.now (g.K.Keeper.moment c.args.keeper.now) e c.select_objects.new.session (g.K.Keeper.moment c.select_objects.new.keeper)) c.from_residual.result c.from_residual.ensures.1 c.in_err-objects.ensures.refused

pub returns-in_err-thing-clause-refused : goal.returns-in_err-thing-clause-refused
returns-in_err-thing-clause-refused g c = λ rules.
    full_reading (pending_fault c.args.session.now) None no_fault (IsRefusedQuery c.args.query.now) c.args.session.now c.select_objects.new.session (g.K.Keeper.moment c.args.keeper.now) (g.K.Keeper.moment c.select_objects.new.keeper) c.from_residual-in_err-thing.result
    (passed_on (λ e. e ≡ Memory) c.from_residual-in_err-thing.result c.from_residual-in_err-thing.ensures.1 refl)
