use Rattle.class_mapping.specs.Mapped.{root_of}
use Rattle.session_loads.proofs.LoadLemmas.{end_found, stays_at}
use Rattle.session_loads.proofs.loads.LoadKeyObjectLoad.take.Goals as goal

pub load_key-requires : goal.load_key-requires
load_key-requires g c = record { fit = c.requires.fit; class = c.requires.ready.0; key = c.requires.ready.1; ready = record { attached = c.requires.attached; inside = c.requires.inside } }

pub returns-clause-step : goal.returns-clause-step
returns-clause-step g c = c.load_key.ensures.step

pub returns-clause-depth : goal.returns-clause-depth
returns-clause-depth g c = stays_at (g.K.Keeper.moment c.args.keeper.now) (g.K.Keeper.moment c.load_key.new.keeper) c.load_key.result c.load_key.ensures.stays

pub returns-clause-found : goal.returns-clause-found
returns-clause-found g c = end_found c.args.mapping.now c.load_key.new.arena (root_of c.args.mapping.now c.args.self.class) c.load_key.result c.load_key.ensures.fits c.load_key.ensures.of
