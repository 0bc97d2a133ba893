use Rattle.std.proofs.Common.{refl, sym, ◌∙◌}
use Rattle.session_loads.specs.Asking.{is_unloaded_in}
use Rattle.session_loads.specs.Reads.{fetch_members, read_members}
use Rattle.session_loads.specs.Refusals.{Held}
use Rattle.session_loads.proofs.CallLemmas.{asked, unasked}
use Rattle.session_loads.proofs.collections.fetch_members.Goals as goal

pub returns-then-not-is_unloaded_in-clause-call : goal.returns-then-not-is_unloaded_in-clause-call
unfolding fetch_members
returns-then-not-is_unloaded_in-clause-call g c =
    unasked g.K.Keeper.moment (is_unloaded_in c.args.owner c.args.place) (read_members c.args.owner c.args.place c.args.call) (sym c.is_unloaded_in.ensures ∙ c.if-not-is_unloaded_in.true) c.requires.in_step

pub returns-then-not-is_unloaded_in-clause-known : goal.returns-then-not-is_unloaded_in-clause-known
returns-then-not-is_unloaded_in-clause-known g c = Held (sym c.is_unloaded_in.ensures ∙ c.if-not-is_unloaded_in.true) refl

pub returns-clause-call : goal.returns-clause-call
unfolding fetch_members
returns-clause-call g c =
    asked g.K.Keeper.moment (is_unloaded_in c.args.owner c.args.place) (read_members c.args.owner c.args.place c.args.call) (sym c.is_unloaded_in.ensures ∙ c.if-not-is_unloaded_in.false) c.read_members.ensures.call
