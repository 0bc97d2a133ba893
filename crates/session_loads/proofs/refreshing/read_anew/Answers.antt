use Rattle.std.proofs.Common.{None, Ok, ap, length, refl, sym, ◌∙◌}
use Rattle.keeper_core.specs.Beside.{by_own}
use Rattle.session_scopes.specs.Loads.{on_load}
use Rattle.session_calls.proofs.Joining.{change_call, err_call, passed_call, then_call}
use Rattle.session_calls.proofs.Refusing.{passed_on}
use Rattle.session_objects.proofs.Acting.{runs_out}
use Rattle.session_parts.proofs.ObjectLemmas.{made_still}
use Rattle.session_loads.specs.Expiring.{session_expired}
use Rattle.session_loads.specs.Reads.{fill_anew, read_anew}
use Rattle.session_loads.specs.Refusals.{EarlyHere, IsRefusedHere, IsRefusedWhole, ThenHere}
use Rattle.session_loads.specs.Rows.{fill_row}
use Rattle.session_loads.proofs.CallLemmas.{deep_after}
use Rattle.session_loads.proofs.RefusedLemmas.{fill_refused}
use Rattle.session_loads.proofs.RowLemmas.{rows_still}
use Rattle.session_loads.proofs.refreshing.read_anew.Goals as goal

pub load-requires : goal.load-requires
load-requires g c = record { in_step = c.requires.in_step; inside = c.requires.inside; ready = (c.requires.object, c.requires.persistent) }

pub returns-in_err-rows-clause-call : goal.returns-in_err-rows-clause-call
unfolding read_anew
returns-in_err-rows-clause-call g c = passed_call c.from_residual.ensures.1 (err_call (λ rows. fill_anew c.args.object rows) c.in_err-rows.ensures.call)

pub returns-in_err-rows-clause-refused : goal.returns-in_err-rows-clause-refused
returns-in_err-rows-clause-refused g c =
    passed_on (λ e. IsRefusedHere None (IsRefusedWhole c.args.object) c.args.session.now (g.K.Keeper.moment c.args.keeper.now) e c.load.new.session (g.K.Keeper.moment c.load.new.keeper)) c.from_residual.result c.from_residual.ensures.1
    (ThenHere c.in_err-rows.ensures.refused)

pub expire_along-requires : goal.expire_along-requires
expire_along-requires g c = (c.in_ok-rows.ensures.call.kept.same.there c.args.object c.requires.object).0

pub returns-in_err-expire_along-clause-call : goal.returns-in_err-expire_along-clause-call
unfolding read_anew
returns-in_err-expire_along-clause-call g c =
    passed_call c.from_residual-in_err-expire_along.ensures.1 (then_call (λ rows. fill_anew c.args.object rows) c.in_ok-rows.ensures.call (runs_out g.K.Keeper.moment refl c.in_err-expire_along.ensures.same))

pub returns-in_err-expire_along-clause-refused : goal.returns-in_err-expire_along-clause-refused
returns-in_err-expire_along-clause-refused g c =
    passed_on (λ e. IsRefusedHere None (IsRefusedWhole c.args.object) c.args.session.now (g.K.Keeper.moment c.args.keeper.now) e c.expire_along.new.session (g.K.Keeper.moment c.load.new.keeper)) c.from_residual-in_err-expire_along.result
    c.from_residual-in_err-expire_along.ensures.1 (EarlyHere refl)

pub load-requires-2 : goal.load-requires-2
load-requires-2 g c =
    let here = c.in_ok-rows.ensures.call.kept in
    record {
      in_step = (here.in_step.0, here.in_step.1 ∙ ap length (sym c.in_ok-expire_along.ensures.scopes));
      inside = deep_after c.load.new.session.frames.scopes c.expire_along.new.session.frames.scopes c.in_ok-expire_along.ensures.scopes (deep_after c.args.session.now.frames.scopes c.load.new.session.frames.scopes c.in_ok-rows.ensures.left.scopes c.requires.inside);
      ready = (
        made_still c.load.new.session.graph c.expire_along.new.session.graph c.args.object c.in_ok-expire_along.ensures.same.classes (here.same.there c.args.object c.requires.object).0,
        rows_still c.load.new.session c.expire_along.new.session c.args.object c.in_ok-rows.rows c.in_ok-expire_along.ensures.same (here.same.there c.args.object c.requires.object).0 c.in_ok-rows.ensures.found,
      );
    }

pub returns-clause-call : goal.returns-clause-call
unfolding read_anew
returns-clause-call g c =
    let here = c.in_ok-rows.ensures.call.kept.in_step in
    then_call (λ rows. fill_anew c.args.object rows) c.in_ok-rows.ensures.call
    (then_call (λ u. by_own (λ session. on_load (fill_row session.mapping c.args.object c.in_ok-rows.rows)))
    (change_call g.K.Keeper.moment (session_expired c.args.object) {r = Ok tt} c.in_ok-expire_along.ensures.ok tt c.in_ok-expire_along.ensures.same (here.0, here.1 ∙ ap length (sym c.in_ok-expire_along.ensures.scopes)))
    c.load-2.ensures.call)

pub returns-clause-refused : goal.returns-clause-refused
returns-clause-refused g c =
    fill_refused _ (IsRefusedWhole c.args.object) None c.args.session.now c.expire_along.new.session c.load-2.new.session (g.K.Keeper.moment c.args.keeper.now) (g.K.Keeper.moment c.load.new.keeper) (g.K.Keeper.moment c.load-2.new.keeper) c.load-2.result
    c.load-2.ensures.refused
