use Rattle.std.proofs.Common.{true, false, length, sym, ap, ◌∙◌, arith}
use Rattle.session_scopes.specs.SessionState.{SessionState}
use Rattle.session_calls.proofs.Acting.{no_scope_open, none_left, recovers, rolls_back, some_scope_open}
use Rattle.session_calls.proofs.scopes.rollback.Goals as goal

pub go_back-requires : goal.go_back-requires
go_back-requires g c = record {
  in_step = c.requires.in_step;
  depth = (omega arith, some_scope_open c.args.session.now.frames.scopes (sym c.is_in_transaction.ensures ∙ c.if-is_in_transaction.true));
  count = omega (arith, c.savepoints-count.ensures.count);
  left = omega (arith, c.savepoints-count.ensures.count);
}

pub returns-then-is_in_transaction-clause-call : goal.returns-then-is_in_transaction-clause-call
returns-then-is_in_transaction-clause-call g c = rolls_back g.K.Keeper.moment true c.savepoints-count.result (sym c.is_in_transaction.ensures ∙ c.if-is_in_transaction.true) c.savepoints-count.ensures.count c.go_back.ensures.call

pub returns-then-is_in_transaction-clause-outside : goal.returns-then-is_in_transaction-clause-outside
returns-then-is_in_transaction-clause-outside g c = none_left c.go_back.new.session.frames.scopes c.go_back.result c.go_back.ensures.scopes

pub recover-requires : goal.recover-requires
recover-requires g c =
    let long = ap length (no_scope_open c.args.session.now.frames.scopes (sym c.is_in_transaction.ensures ∙ c.if-is_in_transaction.false)) in
    record { count = omega (arith, c.savepoints-count.ensures.count); left = omega (arith, long, c.savepoints-count.ensures.count) }

pub returns-clause-call : goal.returns-clause-call
returns-clause-call g c =
    rolls_back g.K.Keeper.moment false c.savepoints-count.result (sym c.is_in_transaction.ensures ∙ c.if-is_in_transaction.false) c.savepoints-count.ensures.count
    (recovers g.K.Keeper.moment c.savepoints-count.result c.recover.ensures.ok c.recover.ensures.same c.requires.in_step)

pub returns-clause-outside : goal.returns-clause-outside
returns-clause-outside g c = ap (λ (s : SessionState). s.frames.scopes) c.recover.ensures.ok ∙ no_scope_open c.args.session.now.frames.scopes (sym c.is_in_transaction.ensures ∙ c.if-is_in_transaction.false)
