use Rattle.session_scopes.specs.SessionState.{SessionState}
use Rattle.session_scopes.specs.Keeping.{IsKeptOf}
use Rattle.std.proofs.Common.{IfOk, subst}
use Rattle.session_scopes.proofs.GivenLemmas.{kept_of}
use Rattle.session_scopes.proofs.session.Session.keep.Goals as goal

pub returns-clause-kept : goal.returns-clause-kept
returns-clause-kept c =
    subst (λ (s : SessionState). IfOk c.kept_objects.result (λ kept. IsKeptOf s.mapping kept s.graph)) c.self.view_is
    (kept_of c.self.inside.mapping c.self.inside.arena c.kept_objects.result c.self.invariant.fit c.kept_objects.ensures.held c.kept_objects.ensures.narrow)
