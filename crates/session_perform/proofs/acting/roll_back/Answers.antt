use Rattle.std.proofs.Common.{ℕ, Option, IfErr, sym, subst}
use Rattle.command_resolve.specs.declared.resolved.Resolved.TheVariants as resolved
use Rattle.session_perform.specs.Refused.{IsRefusedLine}
use Rattle.session_calls.specs.Calling.{IsSessionCall}
use Rattle.session_perform.specs.Performing.{roll_back}
use Rattle.session_perform.proofs.acting.roll_back.Goals as goal

pub returns-in-None-clause-call : goal.returns-in-None-clause-call
returns-in-None-clause-call g c =
    subst (λ (h : Option ℕ). IsSessionCall g.K.Keeper.moment (λ (u : Unit {0}). u) (roll_back h) (c.args.session.now, c.args.keeper.now) c.rollback.result (c.rollback.new.session, c.rollback.new.keeper)) (sym c.in-None.is) c.rollback.ensures.call

pub returns-in-Some-clause-call : goal.returns-in-Some-clause-call
returns-in-Some-clause-call g c =
    subst (λ (h : Option ℕ). IsSessionCall g.K.Keeper.moment (λ (u : Unit {0}). u) (roll_back h) (c.args.session.now, c.args.keeper.now) c.rollback_handle.result (c.rollback_handle.new.session, c.rollback_handle.new.keeper)) (sym c.in-Some.is) c.rollback_handle.ensures.call

pub returns-in-None-clause-refused : goal.returns-in-None-clause-refused
returns-in-None-clause-refused g c = λ rules.
    subst (λ (h : Option ℕ). IfErr c.rollback.result (λ e. IsRefusedLine rules (resolved.Rollback h) c.args.session.now (g.K.Keeper.moment c.args.keeper.now) e c.rollback.new.session (g.K.Keeper.moment c.rollback.new.keeper))) (sym c.in-None.is) c.rollback.ensures.stops

pub returns-in-Some-clause-refused : goal.returns-in-Some-clause-refused
returns-in-Some-clause-refused g c = λ rules.
    subst (λ (h : Option ℕ). IfErr c.rollback_handle.result (λ e. IsRefusedLine rules (resolved.Rollback h) c.args.session.now (g.K.Keeper.moment c.args.keeper.now) e c.rollback_handle.new.session (g.K.Keeper.moment c.rollback_handle.new.keeper))) (sym c.in-Some.is) c.rollback_handle.ensures.refused
