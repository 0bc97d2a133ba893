use Rattle.std.proofs.Common.{Option, IfErr, refl, sym, ap, subst}
use Rattle.base_core.specs.declared.refusal.Refusal.{Refusal}
use Rattle.object_arena.specs.Graph.{either_fault}
use Rattle.session_calls.specs.Refusals.{Before, IsRefused, kept_fault}
use Rattle.session_calls.specs.Steps.{pending_fault}
use Rattle.session_calls.proofs.Acting.{sets, sets_none}
use Rattle.session_calls.proofs.objects.set_cell.Goals as goal

pub returns-in-Some-clause-call : goal.returns-in-Some-clause-call
returns-in-Some-clause-call g c = sets_none g.K.Keeper.moment c.args.object c.args.attr c.args.value (sym c.in-Some.ensures.fault) c.in-Some.ensures.own c.requires.in_step

pub returns-in-Some-clause-refused : goal.returns-in-Some-clause-refused
returns-in-Some-clause-refused g c = Before (ap (λ (fault : Option Refusal). either_fault fault (pending_fault c.args.session.now)) (sym c.in-Some.ensures.fault)) refl

pub returns-in-None-clause-call : goal.returns-in-None-clause-call
returns-in-None-clause-call g c = sets g.K.Keeper.moment c.args.object c.args.attr c.args.value (sym c.in-None.ensures.fault) c.requires.in_step c.set_fitting.ensures.call

pub returns-in-None-clause-refused : goal.returns-in-None-clause-refused
returns-in-None-clause-refused g c =
    subst
    (λ (fault : Option Refusal). IfErr c.set_fitting.result
    (λ e. IsRefused (either_fault fault (pending_fault c.args.session.now)) (kept_fault c.args.object c.args.attr c.args.session.now) c.args.session.now e c.set_fitting.new.session))
    c.in-None.ensures.fault c.set_fitting.ensures.refused
