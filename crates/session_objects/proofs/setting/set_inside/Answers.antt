use Rattle.std.proofs.Common.{Option, IfErr, ap, refl, subst, sym}
use Rattle.base_core.specs.declared.refusal.Refusal.{Refusal}
use Rattle.object_arena.specs.Graph.{either_fault}
use Rattle.session_calls.specs.Refusals.{Before, IsRefused, kept_fault, set_fault}
use Rattle.session_objects.proofs.Judged.{given, kept}
use Rattle.session_objects.proofs.setting.set_inside.Goals as goal

pub returns-in-None-clause-call : goal.returns-in-None-clause-call
returns-in-None-clause-call g c = given g.K.Keeper.moment c.args.object c.args.attr c.args.value c.in-None.ensures.fault c.requires.in_step c.set_cell.ensures.call

pub returns-in-Some-clause-call : goal.returns-in-Some-clause-call
returns-in-Some-clause-call g c = kept g.K.Keeper.moment c.args.object c.args.attr c.args.value c.in-Some.ensures.fault c.in-Some.ensures.own c.requires.in_step

pub returns-in-None-clause-refused : goal.returns-in-None-clause-refused
returns-in-None-clause-refused g c =
    subst
    (λ (fault : Option Refusal). IfErr c.set_cell.result
    (λ e. IsRefused (either_fault fault (set_fault c.args.object c.args.attr c.args.value c.args.session.now)) (kept_fault c.args.object c.args.attr c.args.session.now) c.args.session.now e c.set_cell.new.session))
    c.in-None.ensures.fault c.set_cell.ensures.refused

pub returns-in-Some-clause-refused : goal.returns-in-Some-clause-refused
returns-in-Some-clause-refused g c =
    Before (ap (λ (fault : Option Refusal). either_fault fault (set_fault c.args.object c.args.attr c.args.value c.args.session.now)) (sym c.in-Some.ensures.fault)) refl
