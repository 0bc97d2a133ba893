use Rattle.session_loads.proofs.LoadLemmas.{stays_at}
use Rattle.session_loads.proofs.queries.LoadQueryObjectLoad.take.Goals as goal

pub load_query-requires : goal.load_query-requires
load_query-requires g c = record {
  fit = c.requires.fit;
  class = c.requires.ready.class;
  plain = c.requires.ready.plain;
  reads = c.requires.ready.reads;
  joined = c.requires.ready.joined;
  selectin = c.requires.ready.selectin;
  ready = record { attached = c.requires.attached; inside = c.requires.inside };
}

pub returns-clause-step : goal.returns-clause-step
returns-clause-step g c = c.load_query.ensures.step

pub returns-clause-depth : goal.returns-clause-depth
returns-clause-depth g c = stays_at (g.K.Keeper.moment c.args.keeper.now) (g.K.Keeper.moment c.load_query.new.keeper) c.load_query.result c.load_query.ensures.stays
