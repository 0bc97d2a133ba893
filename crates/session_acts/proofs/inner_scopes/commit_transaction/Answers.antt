use Rattle.session_acts.proofs.Savepoints.{commits, commits_not}
use Rattle.std.proofs.Common.{ap, ◌∙◌}
use Rattle.session_scopes.specs.SessionState.{SessionState}
use Rattle.session_calls.proofs.Acting.{alike_scopes}
use Rattle.session_calls.proofs.Joining.{passed_call}
use Rattle.session_acts.proofs.inner_scopes.commit_transaction.Goals as goal

pub returns-in_err-send_commit-clause-call : goal.returns-in_err-send_commit-clause-call
returns-in_err-send_commit-clause-call g c = passed_call c.from_residual.ensures.1 (commits_not g.K.Keeper.moment c.in_err-send_commit.ensures)

pub returns-clause-call : goal.returns-clause-call
returns-clause-call g c =
    commits g.K.Keeper.moment c.in_ok-send_commit.ensures c.end_transaction.ensures.ended c.end_transaction.ensures.same

pub end_transaction-requires : goal.end_transaction-requires
end_transaction-requires g c = record {
  inside = alike_scopes c.args.session.now c.send_commit.new.session c.in_ok-send_commit.ensures.alike ∙ c.requires.inside;
  well = ap (λ (s : SessionState). s.failed) c.in_ok-send_commit.ensures.alike ∙ c.requires.well;
}

pub returns-clause-outside : goal.returns-clause-outside
returns-clause-outside g c = ap (λ (s : SessionState). s.frames.scopes) c.end_transaction.ensures.ended
