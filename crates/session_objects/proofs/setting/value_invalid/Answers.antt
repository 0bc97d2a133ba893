use Rattle.std.proofs.Common.{◌≡◌, Option, IfOk, ap, subst}
use Rattle.base_core.specs.declared.refusal.Refusal.{Refusal}
use Rattle.class_types.specs.Shown.{rules_of}
use Rattle.object_arena.specs.Graph.{either_fault}
use Rattle.session_objects.specs.ValueSteps.{value_untaken}
use Rattle.session_objects.proofs.setting.value_invalid.Goals as goal

pub returns-in-Some-clause-fault : goal.returns-in-Some-clause-fault
returns-in-Some-clause-fault g c =
    ap (λ (fault : Option Refusal). either_fault fault (value_untaken (rules_of c.args.hooks.now) c.args.object c.args.attr c.args.value.now c.args.session.now)) c.in-Some.ensures.fault

pub returns-in-None-clause-fault : goal.returns-in-None-clause-fault
returns-in-None-clause-fault g c =
    let untaken : Option Refusal = value_untaken (rules_of c.args.hooks.now) c.args.object c.args.attr c.args.value.now c.args.session.now in
    subst (λ (first : Option Refusal). IfOk c.value_untaken.result (λ fault. fault ≡ either_fault first untaken)) c.in-None.ensures.fault c.value_untaken.ensures.fault
