use Rattle.std.proofs.Common.{◌≡◌, true, sym, subst}
use Rattle.class_mapping.specs.Mapped.{IsClass, Mapped}
use Rattle.object_arena.specs.Fit.{key_fits}
use Rattle.session_calls.proofs.Joining.{err_call, passed_call, then_call}
use Rattle.session_calls.proofs.Refusing.{call_calm, passed_on}
use Rattle.session_loads.specs.Reads.{find_by_key, get}
use Rattle.session_loads.specs.Refusals.{IsRefusedGetting}
use Rattle.session_loads.proofs.RefusedLemmas.{entering_refused, getting_refused}
use Rattle.session_loads.proofs.getting.get.Goals as goal

pub find_by_key-requires : goal.find_by_key-requires
find_by_key-requires g c = record {
  in_step = c.in_ok-enter.ensures.call.kept.in_step;
  inside = c.in_ok-enter.ensures.inside;
  well = c.in_ok-enter.ensures.well;
  class = subst (λ (m : Mapped). IsClass m c.args.class) (sym c.in_ok-enter.ensures.call.kept.same.mapping) c.requires.class;
  key = subst (λ (m : Mapped). key_fits m c.args.class c.args.key.now ≡ true) (sym c.in_ok-enter.ensures.call.kept.same.mapping) c.requires.key;
}

pub returns-in_err-enter-clause-call : goal.returns-in_err-enter-clause-call
unfolding get
returns-in_err-enter-clause-call g c = passed_call c.from_residual.ensures.1 (err_call (λ u. find_by_key c.args.class c.args.key.now) c.in_err-enter.ensures.call)

pub returns-clause-call : goal.returns-clause-call
unfolding get
returns-clause-call g c = then_call (λ u. find_by_key c.args.class c.args.key.now) c.in_ok-enter.ensures.call c.find_by_key.ensures.call

pub returns-in_err-enter-clause-refused : goal.returns-in_err-enter-clause-refused
returns-in_err-enter-clause-refused g c =
    passed_on (λ e. IsRefusedGetting c.args.class c.args.key.now c.args.session.now (g.K.Keeper.moment c.args.keeper.now) e c.enter.new.session (g.K.Keeper.moment c.enter.new.keeper))
    c.from_residual.result c.from_residual.ensures.1
    (entering_refused c.args.class c.args.key.now c.args.session.now c.enter.new.session (g.K.Keeper.moment c.args.keeper.now) (g.K.Keeper.moment c.enter.new.keeper) _ c.in_err-enter.ensures.refused)

pub returns-clause-refused : goal.returns-clause-refused
returns-clause-refused g c =
    getting_refused c.args.class c.args.key.now c.args.session.now c.enter.new.session c.find_by_key.new.session (g.K.Keeper.moment c.args.keeper.now) (g.K.Keeper.moment c.enter.new.keeper) (g.K.Keeper.moment c.find_by_key.new.keeper)
    c.find_by_key.result c.in_ok-enter.ensures.entered c.in_ok-enter.ensures.well (call_calm c.in_ok-enter.ensures.call) c.find_by_key.ensures.refused
