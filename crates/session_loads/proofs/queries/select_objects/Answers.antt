use Rattle.std.proofs.Common.{None, sym, subst}
use Rattle.class_mapping.specs.Mapped.{Mapped}
use Rattle.load_queries.specs.Selectin.{IsSelectable}
use Rattle.session_calls.specs.Steps.{pending_fault}
use Rattle.session_calls.proofs.Joining.{err_call, passed_call, then_call}
use Rattle.session_calls.proofs.Refusing.{call_calm, passed_on}
use Rattle.session_loads.specs.Queries.{load_query, select_objects}
use Rattle.session_loads.specs.Refusals.{IsRefusedLoading, IsRefusedQuery, Unflushed, no_fault}
use Rattle.session_loads.proofs.RefusedLemmas.{flushed_refused}
use Rattle.session_loads.proofs.queries.select_objects.Goals as goal

pub returns-in_err-flush_now-clause-call : goal.returns-in_err-flush_now-clause-call
unfolding select_objects
returns-in_err-flush_now-clause-call g c = passed_call c.from_residual.ensures.1 (err_call (λ u. load_query c.args.query.now) c.in_err-flush_now.ensures.call)

pub returns-in_err-flush_now-clause-refused : goal.returns-in_err-flush_now-clause-refused
returns-in_err-flush_now-clause-refused g c =
    passed_on
    (λ e. IsRefusedLoading (pending_fault c.args.session.now) None no_fault (IsRefusedQuery c.args.query.now) c.args.session.now (g.K.Keeper.moment c.args.keeper.now) e c.flush_now.new.session (g.K.Keeper.moment c.flush_now.new.keeper))
    c.from_residual.result c.from_residual.ensures.1 (Unflushed c.in_err-flush_now.ensures.refused)

pub load-requires : goal.load-requires
load-requires g c = record {
  in_step = c.in_ok-flush_now.ensures.call.kept.in_step;
  inside = c.in_ok-flush_now.ensures.inside;
  ready = subst (λ (m : Mapped). IsSelectable m c.args.query.now) (sym c.in_ok-flush_now.ensures.call.kept.same.mapping) c.requires.query;
}

pub returns-clause-call : goal.returns-clause-call
unfolding select_objects
returns-clause-call g c = then_call (λ u. load_query c.args.query.now) c.in_ok-flush_now.ensures.call c.load.ensures.call

pub returns-clause-made : goal.returns-clause-made
returns-clause-made g c = c.load.ensures.found

pub returns-clause-refused : goal.returns-clause-refused
returns-clause-refused g c =
    flushed_refused (IsRefusedQuery c.args.query.now) (pending_fault c.args.session.now) None no_fault c.args.session.now c.flush_now.new.session c.load.new.session (g.K.Keeper.moment c.args.keeper.now) (g.K.Keeper.moment c.flush_now.new.keeper)
    (g.K.Keeper.moment c.load.new.keeper) c.load.result c.in_ok-flush_now.ensures.flushed (call_calm c.in_ok-flush_now.ensures.call) c.load.ensures.refused
