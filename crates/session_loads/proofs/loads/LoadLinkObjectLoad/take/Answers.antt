use Rattle.session_loads.proofs.LoadLemmas.{stays_at}
use Rattle.session_loads.proofs.loads.LoadLinkObjectLoad.take.Goals as goal

pub load_lazy-requires : goal.load_lazy-requires
load_lazy-requires g c = record {
  fit = c.requires.fit;
  object = c.requires.ready.0;
  persistent = c.requires.ready.1;
  place = c.requires.ready.2;
  ready = record { attached = c.requires.attached; inside = c.requires.inside };
}

pub returns-clause-step : goal.returns-clause-step
returns-clause-step g c = c.load_lazy.ensures.step

pub returns-clause-depth : goal.returns-clause-depth
returns-clause-depth g c = stays_at (g.K.Keeper.moment c.args.keeper.now) (g.K.Keeper.moment c.load_lazy.new.keeper) c.load_lazy.result c.load_lazy.ensures.stays
