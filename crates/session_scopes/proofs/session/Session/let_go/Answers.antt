use Rattle.std.proofs.Common.{false, refl, ap, arith}
use Rattle.savepoints.specs.Scopes.{Framed}
use Rattle.session_scopes.proofs.SessionLemmas.{fewer, session_outside}
use Rattle.session_scopes.proofs.session.Session.let_go.Goals as goal

pub invariant_of-self : goal.invariant_of-self
invariant_of-self c =
    session_outside c.self.inside.mapping c.self.inside.arena c.let_go_all.new.arena c.self.inside.frames.scopes c.clear.new.self.scopes c.self.inside.failed false c.self.inside.handles c.end.new.self
    (ap (λ (f : Framed). f.scopes) c.clear.ensures) refl (omega (arith, c.len.ensures, fewer c.len.result c.self.inside.handles c.end.new.self c.end.ensures))
    (c.let_go_all.ensures.keeps.fits c.self.inside.mapping c.self.invariant.fit) c.let_go_all.ensures.keeps.classes c.self.invariant
