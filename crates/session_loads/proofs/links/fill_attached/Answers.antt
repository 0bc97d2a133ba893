use Rattle.std.proofs.Common.{refl, sym}
use Rattle.session_loads.specs.Asking.{link_fault}
use Rattle.session_loads.specs.Reads.{fill_attached, fill_link}
use Rattle.session_loads.specs.Refusals.{FaultHere, IsRefusedLink}
use Rattle.session_loads.proofs.CallLemmas.{cleared, faulted, ok_holds}
use Rattle.session_loads.proofs.RefusedLemmas.{thens_here}
use Rattle.session_loads.proofs.links.fill_attached.Goals as goal

pub returns-in-Some-clause-call : goal.returns-in-Some-clause-call
unfolding fill_attached
returns-in-Some-clause-call g c = faulted g.K.Keeper.moment (link_fault c.args.object c.args.place) (λ u. fill_link c.args.object c.args.place) c.in-Some.ensures.fault c.in-Some.ensures.own c.requires.in_step

pub returns-in-Some-clause-refused : goal.returns-in-Some-clause-refused
returns-in-Some-clause-refused g c = FaultHere (sym c.in-Some.ensures.fault) refl

pub fill_link-requires : goal.fill_link-requires
fill_link-requires g c = record { in_step = c.requires.in_step; inside = c.requires.inside; object = c.requires.object; place = c.requires.place; held = c.in-None.ensures.held refl }

pub returns-in-None-clause-call : goal.returns-in-None-clause-call
unfolding fill_attached
returns-in-None-clause-call g c = cleared g.K.Keeper.moment (link_fault c.args.object c.args.place) (λ u. fill_link c.args.object c.args.place) (sym c.in-None.ensures.fault) c.requires.in_step c.fill_link.ensures.call

pub returns-in-None-clause-left : goal.returns-in-None-clause-left
returns-in-None-clause-left g c = ok_holds c.fill_link.result c.fill_link.ensures.left

pub returns-in-None-clause-refused : goal.returns-in-None-clause-refused
returns-in-None-clause-refused g c =
    thens_here (IsRefusedLink c.args.object) (link_fault c.args.object c.args.place c.args.session.now) c.args.session.now c.fill_link.new.session (g.K.Keeper.moment c.args.keeper.now) (g.K.Keeper.moment c.fill_link.new.keeper) c.fill_link.result
    c.fill_link.ensures.refused
