use Rattle.std.proofs.Common.{false, length, refl, ap, arith}
use Rattle.session_scopes.specs.SessionState.{SessionState}
use Rattle.session_scopes.proofs.SessionLemmas.{fewer, session_with}
use Rattle.session_scopes.proofs.session.Session.recover.Goals as goal

pub invariant_of-self : goal.invariant_of-self
invariant_of-self c =
    let long = ap (λ (s : SessionState). length s.frames.scopes) c.self.view_is in
    let handles = ap (λ (s : SessionState). length s.drawn.handles) c.self.view_is in
    session_with c.self.inside.mapping c.self.inside.arena c.self.inside.arena c.self.inside.frames.scopes c.self.inside.frames.scopes c.self.inside.failed false c.self.inside.handles c.end.new.self c.self.invariant.fit refl c.self.invariant.keys
    (omega (arith, long, handles, fewer c.args.count c.self.inside.handles c.end.new.self c.end.ensures, c.requires.left)) c.self.invariant
