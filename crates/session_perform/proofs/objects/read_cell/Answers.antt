use Rattle.session_calls.proofs.Refusing.{passed_on}
use Rattle.command_resolve.specs.declared.resolved.Resolved.TheVariants as resolved
use Rattle.session_perform.specs.Refused.{IsRefusedLine}
use Rattle.command_resolve.specs.declared.answer.Answer.TheVariants as answer
use Rattle.session_perform.proofs.Performed.{passed, told, untold}
use Rattle.session_perform.proofs.objects.read_cell.Goals as goal

pub returns-in_err-value-clause-performed : goal.returns-in_err-value-clause-performed
returns-in_err-value-clause-performed g c = passed g.K.Keeper.moment c.from_residual.ensures.1 (untold g.K.Keeper.moment answer.Value c.in_err-value.ensures.call)

pub returns-clause-performed : goal.returns-clause-performed
returns-clause-performed g c = told g.K.Keeper.moment answer.Value tt c.in_ok-value.ensures.call

pub returns-in_err-value-clause-refused : goal.returns-in_err-value-clause-refused
returns-in_err-value-clause-refused g c = λ rules.
    passed_on (λ e. IsRefusedLine rules (resolved.ShowCell c.args.object c.args.attr) c.args.session.now (g.K.Keeper.moment c.args.keeper.now) e c.read_cell.new.session (g.K.Keeper.moment c.read_cell.new.keeper)) c.from_residual.result c.from_residual.ensures.1 c.in_err-value.ensures.refused
