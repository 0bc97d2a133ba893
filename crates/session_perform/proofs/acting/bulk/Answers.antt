use Rattle.session_calls.proofs.Refusing.{passed_on}
use Rattle.command_resolve.specs.declared.resolved.Resolved.TheVariants as resolved
use Rattle.session_perform.specs.Refused.{IsRefusedLine}
use Rattle.command_resolve.specs.declared.answer.Answer.TheVariants as answer
use Rattle.session_perform.proofs.Performed.{passed, told, untold}
use Rattle.session_perform.proofs.acting.bulk.Goals as goal

pub returns-in_err-count-clause-performed : goal.returns-in_err-count-clause-performed
returns-in_err-count-clause-performed g c = passed g.K.Keeper.moment c.from_residual.ensures.1 (untold g.K.Keeper.moment answer.Count c.in_err-count.ensures.call)

pub returns-clause-performed : goal.returns-clause-performed
returns-clause-performed g c = told g.K.Keeper.moment answer.Count tt c.in_ok-count.ensures.call

pub returns-in_err-count-clause-refused : goal.returns-in_err-count-clause-refused
returns-in_err-count-clause-refused g c = λ rules.
    passed_on (λ e. IsRefusedLine rules (resolved.Bulk c.args.statement.now) c.args.session.now (g.K.Keeper.moment c.args.keeper.now) e c.bulk.new.session (g.K.Keeper.moment c.bulk.new.keeper)) c.from_residual.result c.from_residual.ensures.1 c.in_err-count.ensures.refused
