use Rattle.std.proofs.Common.{sym, ◌∙◌}
use Rattle.session_loads.specs.Asking.{is_unloaded_in}
use Rattle.session_loads.specs.Reads.{fill_link, load_link}
use Rattle.session_loads.proofs.CallLemmas.{asked, unasked}
use Rattle.session_loads.proofs.RefusedLemmas.{loaded_nothing}
use Rattle.session_loads.proofs.links.fill_link.Goals as goal

pub returns-then-not-is_unloaded_in-clause-call : goal.returns-then-not-is_unloaded_in-clause-call
unfolding fill_link
returns-then-not-is_unloaded_in-clause-call g c =
    unasked g.K.Keeper.moment (is_unloaded_in c.args.object c.args.place) (load_link c.args.object c.args.place) (sym c.is_unloaded_in.ensures ∙ c.if-not-is_unloaded_in.true) c.requires.in_step

pub returns-then-not-is_unloaded_in-clause-left : goal.returns-then-not-is_unloaded_in-clause-left
returns-then-not-is_unloaded_in-clause-left g c = loaded_nothing c.args.session.now

pub load-requires : goal.load-requires
load-requires g c = record { in_step = c.requires.in_step; inside = c.requires.inside; ready = (c.requires.object, c.requires.held (sym c.is_unloaded_in.ensures ∙ c.if-not-is_unloaded_in.false), c.requires.place) }

pub returns-clause-call : goal.returns-clause-call
unfolding fill_link
returns-clause-call g c = asked g.K.Keeper.moment (is_unloaded_in c.args.object c.args.place) (load_link c.args.object c.args.place) (sym c.is_unloaded_in.ensures ∙ c.if-not-is_unloaded_in.false) c.load.ensures.call

pub returns-clause-refused : goal.returns-clause-refused
returns-clause-refused g c = c.load.ensures.refused
