use Rattle.std.proofs.Common.{length, ap, ◌∙◌, arith}
use Rattle.session_scopes.specs.SessionState.{SessionState}
use Rattle.session_scopes.proofs.SessionLemmas.{session_entered}
use Rattle.session_scopes.proofs.session.Session.begin.Goals as goal

pub start-requires : goal.start-requires
start-requires c = omega (arith, ap (λ (s : SessionState). length s.frames.scopes) c.self.view_is, ap length c.requires.outside)

pub invariant_of-self : goal.invariant_of-self
invariant_of-self c =
    session_entered c.self.inside.mapping c.self.inside.arena c.self.inside.frames c.start.new.self c.self.inside.failed c.self.inside.handles c.start.result c.start.ensures.ok c.start.ensures.err
    (c.start.ensures.keys c.self.inside.mapping c.self.invariant.fit c.self.invariant.keys)
    (ap (λ (s : SessionState). s.failed) c.self.view_is ∙ c.requires.well) (ap (λ (s : SessionState). s.frames.scopes) c.self.view_is ∙ c.requires.outside) c.self.invariant
