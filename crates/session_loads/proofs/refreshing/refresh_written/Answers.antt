use Rattle.std.proofs.Common.{refl, sym}
use Rattle.session_loads.specs.Asking.{persistence_fault}
use Rattle.session_loads.specs.Reads.{read_anew, refresh_written}
use Rattle.session_loads.specs.Refusals.{FaultHere, IsRefusedWhole}
use Rattle.session_loads.proofs.CallLemmas.{cleared, faulted}
use Rattle.session_loads.proofs.RefusedLemmas.{unasked_here}
use Rattle.session_loads.proofs.refreshing.refresh_written.Goals as goal

pub returns-in-Some-clause-call : goal.returns-in-Some-clause-call
unfolding refresh_written
returns-in-Some-clause-call g c = faulted g.K.Keeper.moment (persistence_fault c.args.object) (λ u. read_anew c.args.object) c.in-Some.ensures.fault c.in-Some.ensures.own c.requires.in_step

pub returns-in-Some-clause-refused : goal.returns-in-Some-clause-refused
returns-in-Some-clause-refused g c = FaultHere (sym c.in-Some.ensures.fault) refl

pub read_anew-requires : goal.read_anew-requires
read_anew-requires g c = record { in_step = c.requires.in_step; inside = c.requires.inside; object = c.requires.object; persistent = c.in-None.ensures.held refl }

pub returns-in-None-clause-call : goal.returns-in-None-clause-call
unfolding refresh_written
returns-in-None-clause-call g c = cleared g.K.Keeper.moment (persistence_fault c.args.object) (λ u. read_anew c.args.object) (sym c.in-None.ensures.fault) c.requires.in_step c.read_anew.ensures.call

pub returns-in-None-clause-refused : goal.returns-in-None-clause-refused
returns-in-None-clause-refused g c =
    unasked_here (IsRefusedWhole c.args.object) (persistence_fault c.args.object c.args.session.now) c.args.session.now c.read_anew.new.session (g.K.Keeper.moment c.args.keeper.now) (g.K.Keeper.moment c.read_anew.new.keeper) c.read_anew.result
    c.read_anew.ensures.refused
