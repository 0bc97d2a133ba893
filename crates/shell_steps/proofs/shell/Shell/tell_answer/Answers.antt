use Rattle.std.proofs.Common.{ap, sym, subst}
use Rattle.shell_stage.specs.Stages.{IsAnswerAt}
use Rattle.shell_stage.proofs.Bindings.{bound_more}
use Rattle.shell_steps.specs.ShellState.{ShellState}
use Rattle.shell_steps.proofs.Commands.{tells_view}
use Rattle.shell_steps.proofs.shell.Shell.tell_answer.Goals as goal

pub reply_to-requires : goal.reply_to-requires
reply_to-requires c = subst (λ (s : ShellState). IsAnswerAt s.stage c.args.answer) (sym c.self.view_is) c.requires

pub returns-in_err-bind-clause-stage : goal.returns-in_err-bind-clause-stage
returns-in_err-bind-clause-stage c = ap (λ (s : ShellState). s.stage) c.self.view_is

pub invariant_of-self-2 : goal.invariant_of-self-2
invariant_of-self-2 c =
    bound_more c.self.inside.stage c.self.inside.names c.bind.new.names c.args.answer c.in_ok-bind.ensures.ok
    (subst (λ (s : ShellState). IsAnswerAt s.stage c.args.answer) (sym c.self.view_is) c.requires) c.self.invariant

pub returns-clause-call : goal.returns-clause-call
returns-clause-call c =
    tells_view c.args.answer (record { options = c.self.inside.options; stage = c.self.inside.stage; names = c.self.inside.names; desk = c.self.inside.desk }) c.args.self.now c.bind.new.names c.in_ok-reply.reply c.self.view_is c.in_ok-bind.ensures.ok c.in_ok-reply.ensures

pub returns-clause-stage : goal.returns-clause-stage
returns-clause-stage c = ap (λ (s : ShellState). s.stage) c.self.view_is
