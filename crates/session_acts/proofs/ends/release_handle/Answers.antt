use Rattle.std.proofs.Common.{length}
use Rattle.session_acts.proofs.Savepoints.{fewer_than_scopes, releases_none, releases_place}
use Rattle.session_acts.proofs.ends.release_handle.Goals as goal

pub returns-in-None-clause-call : goal.returns-in-None-clause-call
returns-in-None-clause-call g c = releases_none g.K.Keeper.moment c.args.handle c.in-None.ensures.place c.requires.in_step

pub release_many-requires : goal.release_many-requires
release_many-requires g c = record {
  in_step = c.requires.in_step;
  count = fewer_than_scopes c.args.session.now.failed (length c.args.session.now.frames.scopes) (length c.args.session.now.drawn.handles) c.in-Some.place c.requires.well c.savepoints-count.ensures.depth c.in-Some.ensures.inside;
  well = c.requires.well;
}

pub returns-in-Some-clause-call : goal.returns-in-Some-clause-call
returns-in-Some-clause-call g c = releases_place g.K.Keeper.moment c.args.handle c.in-Some.place c.in-Some.ensures.place c.release_many.ensures.call
