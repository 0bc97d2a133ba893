use Rattle.std.proofs.Common.{true, ap, sym, ◌∙◌}
use Rattle.session_scopes.specs.SessionState.{SessionState}
use Rattle.session_calls.proofs.Acting.{closes_by, closes_outside, no_scope_open, some_scope_open}
use Rattle.session_calls.proofs.scopes.close.Goals as goal

pub close_inside-requires : goal.close_inside-requires
close_inside-requires g c = record { in_step = c.requires.in_step; inside = some_scope_open c.args.session.now.frames.scopes (sym c.is_in_transaction.ensures ∙ c.if-is_in_transaction.true) }

pub returns-then-is_in_transaction-clause-call : goal.returns-then-is_in_transaction-clause-call
returns-then-is_in_transaction-clause-call g c = closes_by g.K.Keeper.moment true (sym c.is_in_transaction.ensures ∙ c.if-is_in_transaction.true) c.close_inside.ensures.call

pub returns-clause-call : goal.returns-clause-call
returns-clause-call g c =
    closes_outside g.K.Keeper.moment (sym c.is_in_transaction.ensures ∙ c.if-is_in_transaction.false) (no_scope_open c.args.session.now.frames.scopes (sym c.is_in_transaction.ensures ∙ c.if-is_in_transaction.false)) c.requires.in_step c.let_go.ensures.closed c.let_go.ensures.same

pub returns-clause-outside : goal.returns-clause-outside
returns-clause-outside g c = ap (λ (s : SessionState). s.frames.scopes) c.let_go.ensures.closed
