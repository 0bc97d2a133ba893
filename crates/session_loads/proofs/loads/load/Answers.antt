use Rattle.keeper_core.proofs.Lifting.{chosen}
use Rattle.session_scopes.specs.Loads.{on_load}
use Rattle.session_loads.proofs.RefusedLemmas.{load_refused}
use Rattle.session_loads.proofs.loads.load.Goals as goal

pub returns-clause-call : goal.returns-clause-call
returns-clause-call g c = record {
  step = chosen g.K.Keeper.moment (λ state. on_load (g.L.ObjectLoad.program c.args.load state.mapping)) c.load.ensures.step;
  kept = c.load.ensures.kept;
}

pub returns-clause-left : goal.returns-clause-left
returns-clause-left g c = record { goes = c.load.ensures.kept.same; rest = c.load.ensures.rest; scopes = c.load.ensures.scopes }

pub returns-clause-refused : goal.returns-clause-refused
returns-clause-refused g c =
    load_refused (g.L.ObjectLoad.can_refuse c.args.load) (g.L.ObjectLoad.is_shown c.args.load) c.args.session.now c.load.new.self (g.K.Keeper.moment c.args.keeper.now) (g.K.Keeper.moment c.load.new.keeper) c.load.result
    (record { goes = c.load.ensures.kept.same; rest = c.load.ensures.rest; scopes = c.load.ensures.scopes }) c.load.ensures.refuses c.load.ensures.shown
