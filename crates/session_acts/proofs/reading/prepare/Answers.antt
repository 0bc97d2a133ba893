use Rattle.keeper_core.proofs.Lifting.{chosen}
use Rattle.load_preparing.specs.Preparing.{read_going}
use Rattle.session_scopes.specs.Loads.{on_load}
use Rattle.session_acts.specs.Flush.{prepare}
use Rattle.session_acts.proofs.ReadingSteps.{reading_refused}
use Rattle.session_acts.proofs.reading.prepare.Goals as goal

pub returns-clause-call : goal.returns-clause-call
unfolding prepare
returns-clause-call g c = record { step = chosen g.K.Keeper.moment (λ session. on_load (read_going session.mapping)) c.load.ensures.step; kept = c.load.ensures.kept }

pub returns-clause-left : goal.returns-clause-left
returns-clause-left g c = record { goes = c.load.ensures.kept.same; rest = c.load.ensures.rest; scopes = c.load.ensures.scopes }

pub returns-clause-refused : goal.returns-clause-refused
returns-clause-refused g c =
    reading_refused c.args.session.now c.load.new.self (g.K.Keeper.moment c.args.keeper.now) (g.K.Keeper.moment c.load.new.keeper) c.load.result
    (record { goes = c.load.ensures.kept.same; rest = c.load.ensures.rest; scopes = c.load.ensures.scopes }) c.load.ensures.refuses c.load.ensures.shown
