use Rattle.std.proofs.Common.{refl}
use Rattle.session_loads.proofs.LoadLemmas.{grows_classes, stays_at}
use Rattle.session_loads.proofs.rows.ReadRowObjectLoad.take.Goals as goal

pub read_row-requires : goal.read_row-requires
read_row-requires g c = record { fit = c.requires.fit; object = c.requires.ready.0; persistent = c.requires.ready.1; ready = record { attached = c.requires.attached; inside = c.requires.inside } }

pub returns-clause-step : goal.returns-clause-step
returns-clause-step g c = c.read_row.ensures.step

pub returns-clause-depth : goal.returns-clause-depth
returns-clause-depth g c = stays_at (g.K.Keeper.moment c.args.keeper.now) (g.K.Keeper.moment c.read_row.new.keeper) c.read_row.result c.read_row.ensures.stays

pub returns-clause-grows : goal.returns-clause-grows
returns-clause-grows g c = grows_classes c.args.arena.now c.args.arena.now refl
