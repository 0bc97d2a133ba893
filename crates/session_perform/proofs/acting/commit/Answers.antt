use Rattle.std.proofs.Common.{ℕ, Option, IfErr, sym, subst}
use Rattle.command_resolve.specs.declared.resolved.Resolved.TheVariants as resolved
use Rattle.session_perform.specs.Refused.{IsRefusedLine}
use Rattle.session_calls.specs.Calling.{IsSessionCall}
use Rattle.session_perform.specs.Performing.{commit}
use Rattle.session_perform.proofs.acting.commit.Goals as goal

pub returns-in-None-clause-call : goal.returns-in-None-clause-call
returns-in-None-clause-call g c =
    subst (λ (h : Option ℕ). IsSessionCall g.K.Keeper.moment (λ (u : Unit {0}). u) (commit h) (c.args.session.now, c.args.keeper.now) c.commit.result (c.commit.new.session, c.commit.new.keeper)) (sym c.in-None.is) c.commit.ensures.call

pub returns-in-Some-clause-call : goal.returns-in-Some-clause-call
returns-in-Some-clause-call g c =
    subst (λ (h : Option ℕ). IsSessionCall g.K.Keeper.moment (λ (u : Unit {0}). u) (commit h) (c.args.session.now, c.args.keeper.now) c.commit_handle.result (c.commit_handle.new.session, c.commit_handle.new.keeper)) (sym c.in-Some.is) c.commit_handle.ensures.call

pub returns-in-None-clause-refused : goal.returns-in-None-clause-refused
returns-in-None-clause-refused g c = λ rules.
    subst (λ (h : Option ℕ). IfErr c.commit.result (λ e. IsRefusedLine rules (resolved.Commit h) c.args.session.now (g.K.Keeper.moment c.args.keeper.now) e c.commit.new.session (g.K.Keeper.moment c.commit.new.keeper))) (sym c.in-None.is) c.commit.ensures.refused

pub returns-in-Some-clause-refused : goal.returns-in-Some-clause-refused
returns-in-Some-clause-refused g c = λ rules.
    subst (λ (h : Option ℕ). IfErr c.commit_handle.result (λ e. IsRefusedLine rules (resolved.Commit h) c.args.session.now (g.K.Keeper.moment c.args.keeper.now) e c.commit_handle.new.session (g.K.Keeper.moment c.commit_handle.new.keeper))) (sym c.in-Some.is) c.commit_handle.ensures.refused
