use Rattle.session_calls.proofs.Refusing.{passed_on}
use Rattle.command_resolve.specs.declared.resolved.Resolved.TheVariants as resolved
use Rattle.session_perform.specs.Refused.{IsRefusedLine}
use Rattle.shell_parts.specs.declared.names.Bound.TheVariants.{Saved}
use Rattle.command_resolve.specs.declared.answer.Answer.TheVariants.{Bind}
use Rattle.session_perform.proofs.Performed.{passed, told, untold}
use Rattle.session_perform.proofs.acting.begin_nested.Goals as goal

pub returns-in_err-handle-clause-performed : goal.returns-in_err-handle-clause-performed
returns-in_err-handle-clause-performed g c = passed g.K.Keeper.moment c.from_residual.ensures.1 (untold g.K.Keeper.moment (λ handle. Bind c.args.name (Saved handle)) c.in_err-handle.ensures.call)

pub returns-clause-performed : goal.returns-clause-performed
returns-clause-performed g c = told g.K.Keeper.moment (λ handle. Bind c.args.name (Saved handle)) (c.in_ok-handle.ensures.drawn, tt) c.in_ok-handle.ensures.call

pub returns-in_err-handle-clause-refused : goal.returns-in_err-handle-clause-refused
returns-in_err-handle-clause-refused g c = λ rules.
    passed_on (λ e. IsRefusedLine rules (resolved.BeginNested c.args.name) c.args.session.now (g.K.Keeper.moment c.args.keeper.now) e c.begin_nested.new.session (g.K.Keeper.moment c.begin_nested.new.keeper)) c.from_residual.result c.from_residual.ensures.1 c.in_err-handle.ensures.refused
