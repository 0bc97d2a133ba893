use Rattle.std.proofs.Common.{ℕ, List, Ok, IfOk, ap, sym, subst, ◌∙◌}
use Rattle.base_core.specs.declared.refusal.Refusal.TheVariants.{ScriptError}
use Rattle.shell_steps.specs.Calls.{IsShellCallAlone}
use Rattle.shell_steps.specs.ShellState.{ShellState}
use Rattle.shell_steps.specs.Step.{tell}
use Rattle.shell_steps.proofs.Replying.{ended_some}
use Rattle.shell_steps.proofs.shell.Shell.tell_end.Goals as goal

pub returns-clause-call : goal.returns-clause-call
returns-clause-call c =
    ended_some c.args.self.now c.tell.new.self c.in-Some.block c.tell.result
    (sym (ap (λ (s : ShellState). s.desk.block) c.self.view_is) ∙ sym c.block.ensures ∙ c.in-Some.is)
    (subst (λ (n : ℕ). IfOk c.tell.result (λ (reply : List ℕ). IsShellCallAlone (tell n (ScriptError n 1)) c.args.self.now (Ok reply) c.tell.new.self)) c.first-first.ensures c.tell.ensures.call)
