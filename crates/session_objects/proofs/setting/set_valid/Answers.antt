use Rattle.std.proofs.Common.{Option, IfErr, IfSome, ap, refl, sym, subst, ◌∙◌}
use Rattle.base_core.specs.declared.refusal.Refusal.{Refusal}
use Rattle.class_types.specs.Shown.{rules_of}
use Rattle.object_arena.specs.Graph.{either_fault}
use Rattle.keeper_core.specs.Alone.{IsOwn}
use Rattle.session_calls.specs.Refusals.{Before, Early, IsRefused}
use Rattle.session_calls.specs.Steps.{pending_fault}
use Rattle.session_objects.specs.ValueSteps.{judged_fault}
use Rattle.session_objects.proofs.Judged.{full_call, of_kind, sets, sets_not}
use Rattle.session_objects.proofs.setting.set_valid.Goals as goal

pub set_judged-requires : goal.set_judged-requires
set_judged-requires g c = record {
  object = c.requires.object;
  attr = c.requires.attr;
  in_step = c.requires.in_step;
  fits = of_kind (rules_of c.args.hooks.now) c.args.object c.args.attr c.args.value c.args.session.now (sym c.in-Ok-None.field-0-is ∙ c.in-Ok-None.ensures.fault);
}

pub returns-in-Ok-None-clause-call : goal.returns-in-Ok-None-clause-call
returns-in-Ok-None-clause-call g c =
    sets g.K.Keeper.moment c.args.object c.args.attr c.args.value (rules_of c.args.hooks.now) (sym c.in-Ok-None.field-0-is ∙ c.in-Ok-None.ensures.fault) c.requires.in_step c.set_judged.ensures.call

pub returns-in-Ok-Some-clause-call : goal.returns-in-Ok-Some-clause-call
returns-in-Ok-Some-clause-call g c =
    sets_not g.K.Keeper.moment c.args.object c.args.attr c.args.value (rules_of c.args.hooks.now) (sym c.in-Ok-Some.field-0-is ∙ c.in-Ok-Some.ensures.fault)
    (subst (λ (f : Option Refusal). IfSome f IsOwn) c.in-Ok-Some.field-0-is c.in-Ok-Some.ensures.own) c.requires.in_step

pub returns-in-Err-clause-call : goal.returns-in-Err-clause-call
returns-in-Err-clause-call g c = full_call g.K.Keeper.moment c.requires.in_step

pub returns-in-Ok-None-clause-refused : goal.returns-in-Ok-None-clause-refused
returns-in-Ok-None-clause-refused g c =
    subst
    (λ (fault : Option Refusal). IfErr c.set_judged.result
    (λ e. IsRefused (either_fault fault (pending_fault c.args.session.now)) (judged_fault c.args.object c.args.attr c.args.session.now) c.args.session.now e c.set_judged.new.session))
    (sym c.in-Ok-None.field-0-is ∙ c.in-Ok-None.ensures.fault) c.set_judged.ensures.refused

pub returns-in-Ok-Some-clause-refused : goal.returns-in-Ok-Some-clause-refused
returns-in-Ok-Some-clause-refused g c =
    Before (ap (λ (fault : Option Refusal). either_fault fault (pending_fault c.args.session.now)) (sym (sym c.in-Ok-Some.field-0-is ∙ c.in-Ok-Some.ensures.fault))) refl

pub returns-in-Err-clause-refused : goal.returns-in-Err-clause-refused
returns-in-Err-clause-refused g c = Early refl
