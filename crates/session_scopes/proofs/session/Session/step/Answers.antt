use Rattle.session_scopes.proofs.SessionLemmas.{session_kept}
use Rattle.session_scopes.proofs.session.Session.step.Goals as goal

pub invariant_of-self : goal.invariant_of-self
invariant_of-self g c =
    session_kept c.self.inside.mapping c.self.inside.arena c.take.new.arena c.self.inside.frames c.take.new.frames c.self.inside.failed c.self.inside.handles c.take.ensures.fits c.take.ensures.classes c.take.ensures.scopes c.self.invariant
