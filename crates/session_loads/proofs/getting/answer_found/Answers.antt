use Rattle.std.proofs.Common.{Some, refl, sym, ◌∙◌}
use Rattle.keeper_core.specs.Programs.{give}
use Rattle.session_calls.proofs.Joining.{err_call, passed_call, still_call, then_call}
use Rattle.session_calls.proofs.Refusing.{passed_on}
use Rattle.session_loads.specs.Refusals.{IsRefusedCells}
use Rattle.session_loads.proofs.CallLemmas.{found_beside, found_here}
use Rattle.session_loads.proofs.getting.answer_found.Goals as goal

pub returns-then-not-is_under-clause-call : goal.returns-then-not-is_under-clause-call
returns-then-not-is_under-clause-call g c = found_beside g.K.Keeper.moment c.args.class c.args.object (sym c.is_under.ensures ∙ c.if-not-is_under.true) c.requires.in_step

pub returns-in_err-fill_key-clause-call : goal.returns-in_err-fill_key-clause-call
returns-in_err-fill_key-clause-call g c =
    passed_call c.from_residual.ensures.1
    (found_here g.K.Keeper.moment c.args.class c.args.object (sym c.is_under.ensures ∙ c.if-not-is_under.false) (err_call (λ u. give (Some c.args.object)) c.in_err-fill_key.ensures.call))

pub returns-in_err-fill_key-clause-refused : goal.returns-in_err-fill_key-clause-refused
returns-in_err-fill_key-clause-refused g c =
    passed_on (λ e. IsRefusedCells c.args.object c.args.session.now (g.K.Keeper.moment c.args.keeper.now) e c.fill_key.new.session (g.K.Keeper.moment c.fill_key.new.keeper)) c.from_residual.result c.from_residual.ensures.1 c.in_err-fill_key.ensures.refused

pub returns-clause-call : goal.returns-clause-call
returns-clause-call g c =
    found_here g.K.Keeper.moment c.args.class c.args.object (sym c.is_under.ensures ∙ c.if-not-is_under.false)
    (then_call (λ u. give (Some c.args.object)) c.in_ok-fill_key.ensures.call (still_call g.K.Keeper.moment refl c.in_ok-fill_key.ensures.call.kept.in_step))

pub returns-clause-made : goal.returns-clause-made
returns-clause-made g c = (c.in_ok-fill_key.ensures.call.kept.same.there c.args.object c.requires.object).0
