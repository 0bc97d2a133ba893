use Rattle.session_calls.proofs.Refusing.{passed_on}
use Rattle.command_resolve.specs.declared.resolved.Resolved.TheVariants as resolved
use Rattle.session_perform.specs.Refused.{IsRefusedLine}
use Rattle.command_resolve.specs.declared.answer.Answer.TheVariants as answer
use Rattle.session_perform.proofs.Performed.{passed, told, untold}
use Rattle.session_perform.proofs.acting.tables.Goals as goal

pub returns-in_err-tables-clause-performed : goal.returns-in_err-tables-clause-performed
returns-in_err-tables-clause-performed g c = passed g.K.Keeper.moment c.from_residual.ensures.1 (untold g.K.Keeper.moment answer.Tables c.in_err-tables.ensures.call)

pub returns-clause-performed : goal.returns-clause-performed
returns-clause-performed g c = told g.K.Keeper.moment answer.Tables c.in_ok-tables.ensures.declared c.in_ok-tables.ensures.call

pub returns-in_err-tables-clause-refused : goal.returns-in_err-tables-clause-refused
returns-in_err-tables-clause-refused g c = λ rules.
    passed_on (λ e. IsRefusedLine rules resolved.Dump c.args.session.now (g.K.Keeper.moment c.args.keeper.now) e c.args.session.now (g.K.Keeper.moment c.scan_tables.new.keeper)) c.from_residual.result c.from_residual.ensures.1 c.in_err-tables.ensures.stops
