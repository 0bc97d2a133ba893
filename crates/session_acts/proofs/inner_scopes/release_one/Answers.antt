use Rattle.std.proofs.Common.{ℕ, ◌-◌, length, ap, ◌∙◌, arith}
use Rattle.session_acts.proofs.Savepoints.{releases, releases_not}
use Rattle.session_scopes.specs.SessionState.{SessionState}
use Rattle.session_calls.proofs.Acting.{alike_scopes}
use Rattle.session_calls.proofs.Joining.{passed_call}
use Rattle.session_acts.proofs.inner_scopes.release_one.Goals as goal

pub returns-in_err-send_release-clause-call : goal.returns-in_err-send_release-clause-call
returns-in_err-send_release-clause-call g c =
    passed_call c.from_residual.ensures.1 (releases_not g.K.Keeper.moment (length c.args.session.now.frames.scopes - 1) c.in_err-send_release.ensures)

pub returns-clause-call : goal.returns-clause-call
returns-clause-call g c =
    releases g.K.Keeper.moment (length c.args.session.now.frames.scopes - 1) c.in_ok-send_release.ensures c.release.ensures.ok c.release.ensures.same
    (c.release.ensures.scopes ∙ ap (λ (n : ℕ). n - 1) (alike_scopes c.args.session.now c.send_release.new.session c.in_ok-send_release.ensures.alike))

pub release-requires : goal.release-requires
release-requires g c = record {
  inside = omega (arith, alike_scopes c.args.session.now c.send_release.new.session c.in_ok-send_release.ensures.alike, c.requires.inside);
  well = ap (λ (s : SessionState). s.failed) c.in_ok-send_release.ensures.alike ∙ c.requires.well;
}

pub returns-clause-fewer : goal.returns-clause-fewer
returns-clause-fewer g c =
    omega (arith, alike_scopes c.args.session.now c.send_release.new.session c.in_ok-send_release.ensures.alike, c.release.ensures.scopes, c.requires.inside)

pub returns-clause-well : goal.returns-clause-well
returns-clause-well g c =
    ap (λ (s : SessionState). s.failed) c.release.ensures.ok ∙ ap (λ (s : SessionState). s.failed) c.in_ok-send_release.ensures.alike ∙ c.requires.well
