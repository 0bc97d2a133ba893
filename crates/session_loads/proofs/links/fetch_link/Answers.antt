use Rattle.std.proofs.Common.{sym, ◌∙◌}
use Rattle.session_loads.specs.Asking.{is_unloaded_in}
use Rattle.session_loads.specs.Reads.{fetch_link, write_and_fill}
use Rattle.session_loads.proofs.CallLemmas.{asked, unasked}
use Rattle.session_loads.proofs.links.fetch_link.Goals as goal

pub returns-then-not-is_unloaded_in-clause-call : goal.returns-then-not-is_unloaded_in-clause-call
unfolding fetch_link
returns-then-not-is_unloaded_in-clause-call g c =
    unasked g.K.Keeper.moment (is_unloaded_in c.args.object c.args.place) (write_and_fill c.args.object c.args.place) (sym c.is_unloaded_in.ensures ∙ c.if-not-is_unloaded_in.true) c.requires.in_step

pub returns-clause-call : goal.returns-clause-call
unfolding fetch_link
returns-clause-call g c =
    asked g.K.Keeper.moment (is_unloaded_in c.args.object c.args.place) (write_and_fill c.args.object c.args.place) (sym c.is_unloaded_in.ensures ∙ c.if-not-is_unloaded_in.false) c.write_and_fill.ensures.call
