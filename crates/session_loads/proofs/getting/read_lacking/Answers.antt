use Rattle.std.proofs.Common.{◌≡◌, true, None, sym, subst}
use Rattle.class_mapping.specs.Mapped.{IsClass, Mapped}
use Rattle.object_arena.specs.Fit.{key_fits}
use Rattle.session_calls.proofs.Joining.{err_call, passed_call, then_call}
use Rattle.session_calls.proofs.Refusing.{call_calm, passed_on}
use Rattle.session_loads.specs.Reads.{load_key}
use Rattle.session_loads.specs.Refusals.{IsRefusedRows, IsRefusedWriting, NotWritten, no_fault}
use Rattle.session_loads.proofs.CallLemmas.{deep_after}
use Rattle.session_loads.proofs.RefusedLemmas.{after_flush, thens_here}
use Rattle.session_loads.proofs.getting.read_lacking.Goals as goal

pub returns-in_err-flush-clause-call : goal.returns-in_err-flush-clause-call
returns-in_err-flush-clause-call g c = passed_call c.from_residual.ensures.1 (err_call (λ u. load_key c.args.class c.args.key.now) c.in_err-flush.ensures.call)

pub returns-in_err-flush-clause-refused : goal.returns-in_err-flush-clause-refused
returns-in_err-flush-clause-refused g c =
    passed_on (λ e. IsRefusedWriting no_fault IsRefusedRows c.args.session.now (g.K.Keeper.moment c.args.keeper.now) e c.flush.new.session (g.K.Keeper.moment c.flush.new.keeper))
    c.from_residual.result c.from_residual.ensures.1 (NotWritten c.in_err-flush.ensures.refused)

pub load-requires : goal.load-requires
load-requires g c = record {
  in_step = c.in_ok-flush.ensures.call.kept.in_step;
  inside = deep_after c.args.session.now.frames.scopes c.flush.new.session.frames.scopes c.in_ok-flush.ensures.scopes c.requires.inside;
  ready = (
    subst (λ (m : Mapped). IsClass m c.args.class) (sym c.in_ok-flush.ensures.call.kept.same.mapping) c.requires.class,
    subst (λ (m : Mapped). key_fits m c.args.class c.args.key.now ≡ true) (sym c.in_ok-flush.ensures.call.kept.same.mapping) c.requires.key,
  );
}

pub returns-clause-call : goal.returns-clause-call
returns-clause-call g c = then_call (λ u. load_key c.args.class c.args.key.now) c.in_ok-flush.ensures.call c.load.ensures.call

pub returns-clause-made : goal.returns-clause-made
returns-clause-made g c = c.load.ensures.found

pub returns-clause-refused : goal.returns-clause-refused
returns-clause-refused g c =
    after_flush IsRefusedRows no_fault c.args.session.now c.flush.new.session c.load.new.session (g.K.Keeper.moment c.args.keeper.now) (g.K.Keeper.moment c.flush.new.keeper) (g.K.Keeper.moment c.load.new.keeper) c.load.result
    c.in_ok-flush.ensures.flushed (call_calm c.in_ok-flush.ensures.call)
    (thens_here IsRefusedRows None c.flush.new.session c.load.new.session (g.K.Keeper.moment c.flush.new.keeper) (g.K.Keeper.moment c.load.new.keeper) c.load.result c.load.ensures.refused)
