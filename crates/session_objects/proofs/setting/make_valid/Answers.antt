use Rattle.std.proofs.Common.{Option, IfSome, ap, sym, subst, ◌∙◌}
use Rattle.base_core.specs.declared.refusal.Refusal.{Refusal}
use Rattle.class_types.specs.Shown.{rules_of}
use Rattle.class_mapping.specs.Mapped.{Mapped}
use Rattle.keeper_core.specs.Alone.{IsOwn}
use Rattle.session_objects.specs.ValueSteps.{given_fault}
use Rattle.session_objects.proofs.Judged.{is_made, not_made}
use Rattle.session_objects.proofs.setting.make_valid.Goals as goal

pub returns-in-Ok-None-clause-step : goal.returns-in-Ok-None-clause-step
returns-in-Ok-None-clause-step g c =
    let rules = rules_of c.args.hooks.now in
    is_made rules c.args.class c.args.given.now c.args.session.now c.make.new.self c.make.result
    (sym c.in-Ok-None.field-0-is ∙ (c.in-Ok-None.ensures.fault ∙ ap (λ (m : Mapped). given_fault rules m c.args.class c.args.given.now) c.mapping.ensures)) c.make.ensures.step

pub returns-in-Ok-Some-clause-step : goal.returns-in-Ok-Some-clause-step
returns-in-Ok-Some-clause-step g c =
    let rules = rules_of c.args.hooks.now in
    not_made rules c.args.class c.args.given.now c.args.session.now _
    (sym c.in-Ok-Some.field-0-is ∙ (c.in-Ok-Some.ensures.fault ∙ ap (λ (m : Mapped). given_fault rules m c.args.class c.args.given.now) c.mapping.ensures))
    (subst (λ (f : Option Refusal). IfSome f IsOwn) c.in-Ok-Some.field-0-is c.in-Ok-Some.ensures.own)
