use Rattle.std.proofs.Common.{sym, ◌∙◌}
use Rattle.session_loads.specs.Asking.{is_key_expired_in}
use Rattle.session_loads.specs.Reads.{fill_key, refresh_cells}
use Rattle.session_loads.proofs.CallLemmas.{asked, unasked}
use Rattle.session_loads.proofs.getting.fill_key.Goals as goal

pub returns-then-not-is_key_expired-clause-call : goal.returns-then-not-is_key_expired-clause-call
unfolding fill_key
returns-then-not-is_key_expired-clause-call g c = unasked g.K.Keeper.moment (is_key_expired_in c.args.object) (refresh_cells c.args.object) (sym c.is_key_expired.ensures ∙ c.if-not-is_key_expired.true) c.requires.in_step

pub load-requires : goal.load-requires
load-requires g c = record { in_step = c.requires.in_step; inside = c.requires.inside; ready = (c.requires.object, c.requires.persistent) }

pub returns-clause-call : goal.returns-clause-call
unfolding fill_key
returns-clause-call g c = asked g.K.Keeper.moment (is_key_expired_in c.args.object) (refresh_cells c.args.object) (sym c.is_key_expired.ensures ∙ c.if-not-is_key_expired.false) c.load.ensures.call

pub returns-clause-refused : goal.returns-clause-refused
returns-clause-refused g c = c.load.ensures.refused
