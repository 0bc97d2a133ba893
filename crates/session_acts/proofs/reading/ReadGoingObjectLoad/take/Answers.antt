use Rattle.session_acts.proofs.ReadySteps.{stays_at}
use Rattle.session_acts.proofs.reading.ReadGoingObjectLoad.take.Goals as goal

pub read_going-requires : goal.read_going-requires
read_going-requires g c = record { fit = c.requires.fit; ready = record { attached = c.requires.attached; inside = c.requires.inside } }

pub returns-clause-step : goal.returns-clause-step
returns-clause-step g c = c.read_going.ensures.step

pub returns-clause-depth : goal.returns-clause-depth
returns-clause-depth g c = stays_at (g.K.Keeper.moment c.args.keeper.now) (g.K.Keeper.moment c.read_going.new.keeper) c.read_going.result c.read_going.ensures.stays
