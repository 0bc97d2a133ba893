use Rattle.std.proofs.Common.{◌≡◌, Ok, refl, ap, subst}
use Rattle.session_calls.proofs.Refusing.{passed_on}
use Rattle.session_links.specs.declared.reading.Related.TheVariants.{One}
use Rattle.command_names.specs.Standing.{IsOfDeclared, IsThere}
use Rattle.command_resolve.specs.declared.resolved.Resolved.TheVariants as resolved
use Rattle.session_perform.specs.Refused.{IsRefusedLine}
use Rattle.command_resolve.specs.declared.answer.Answer.TheVariants as answer
use Rattle.session_perform.specs.Performing.{link_shown}
use Rattle.session_perform.proofs.Performed.{passed, tells_then, untold_then}
use Rattle.session_perform.proofs.reading.get.Goals as goal

pub returns-in_err-found-clause-performed : goal.returns-in_err-found-clause-performed
returns-in_err-found-clause-performed g c = passed g.K.Keeper.moment c.from_residual.ensures.1 (untold_then g.K.Keeper.moment (λ found session. answer.Bind c.args.name (link_shown session.graph (One found))) c.in_err-found.ensures.call)

pub returns-clause-performed : goal.returns-clause-performed
returns-clause-performed g c =
    tells_then g.K.Keeper.moment (λ found session. answer.Bind c.args.name (link_shown session.graph (One found))) (Ok (answer.Bind c.args.name c.end_shown-thing.result)) (ap (λ thing. answer.Bind c.args.name thing) c.end_shown-thing.ensures.shown) (subst (IsThere c.get.new.session.graph c.get.new.session.drawn.drawn) c.end_shown-thing.ensures.shown c.end_shown-thing.ensures.there, subst (IsOfDeclared c.get.new.session.mapping) c.end_shown-thing.ensures.shown c.end_shown-thing.ensures.declared) tt c.in_ok-found.ensures.call

pub returns-in_err-found-clause-refused : goal.returns-in_err-found-clause-refused
returns-in_err-found-clause-refused g c = λ rules.
    passed_on (λ e. IsRefusedLine rules (resolved.Get c.args.name c.args.class c.args.key.now) c.args.session.now (g.K.Keeper.moment c.args.keeper.now) e c.get.new.session (g.K.Keeper.moment c.get.new.keeper)) c.from_residual.result c.from_residual.ensures.1 c.in_err-found.ensures.refused
