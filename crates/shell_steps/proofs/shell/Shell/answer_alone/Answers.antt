use Rattle.std.proofs.Common.{ℕ, List, refl, subst, sym, ◌∙◌}
use Rattle.class_types.specs.Shown.{rules_of}
use Rattle.keeper_core.proofs.AloneLemmas.{alone_lost}
use Rattle.keeper_core.proofs.Sequence.{passed_on}
use Rattle.shell_stage.specs.Stages.{IsReady}
use Rattle.shell_stage.specs.declared.stage.Stage.{Stage}
use Rattle.shell_steps.proofs.Replying.{answer_early, answer_ok, answer_refused, early_memory}
use Rattle.shell_steps.proofs.shell.Shell.answer_alone.Goals as goal

pub returns-in-Ok-clause-step : goal.returns-in-Ok-clause-step
returns-in-Ok-clause-step g c =
    answer_ok g.K.Keeper.moment {v = λ (text : List ℕ). text} {v' = λ (text : List ℕ). text} (rules_of c.args.hooks.now) c.args.line.now refl c.in-Ok.ensures.step

pub returns-then-ends_early-clause-step : goal.returns-then-ends_early-clause-step
returns-then-ends_early-clause-step g c =
    answer_early g.K.Keeper.moment {v = λ (text : List ℕ). text} {v' = λ (text : List ℕ). text} (rules_of c.args.hooks.now) c.args.line.now (sym c.ends_early.ensures ∙ c.if-ends_early.true) c.in-Err.ensures.step

pub returns-in_err-tell-in-Err-clause-step : goal.returns-in_err-tell-in-Err-clause-step
returns-in_err-tell-in-Err-clause-step g c =
    passed_on c.from_residual.ensures.1
    (answer_refused g.K.Keeper.moment {v = λ (text : List ℕ). text} {v' = λ (text : List ℕ). text} (rules_of c.args.hooks.now) c.args.line.now (sym c.ends_early.ensures ∙ c.if-ends_early.false) c.number-number.ensures c.in-Err.ensures.step alone_lost)

pub returns-in_err-tell-in-Err-clause-stops : goal.returns-in_err-tell-in-Err-clause-stops
returns-in_err-tell-in-Err-clause-stops g c = early_memory c.from_residual.result c.from_residual.ensures.1

pub returns-in_ok-tell-in-Err-clause-step : goal.returns-in_ok-tell-in-Err-clause-step
returns-in_ok-tell-in-Err-clause-step g c =
    answer_refused g.K.Keeper.moment {v = λ (text : List ℕ). text} {v' = λ (text : List ℕ). text} (rules_of c.args.hooks.now) c.args.line.now (sym c.ends_early.ensures ∙ c.if-ends_early.false) c.number-number.ensures c.in-Err.ensures.step
    c.in_ok-tell-in-Err.ensures.call.step

pub returns-in_ok-tell-in-Err-clause-ready : goal.returns-in_ok-tell-in-Err-clause-ready
returns-in_ok-tell-in-Err-clause-ready g c =
    subst (λ (stage : Stage). IsReady stage (g.K.Keeper.moment c.step.new.keeper)) (sym c.in_ok-tell-in-Err.ensures.call.stage) (c.in-Err.ensures.ready (sym c.ends_early.ensures ∙ c.if-ends_early.false))
