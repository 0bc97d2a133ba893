use Rattle.std.proofs.Common.{length, ap, ◌∙◌, arith}
use Rattle.savepoints.specs.Scopes.{Framed}
use Rattle.session_scopes.specs.SessionState.{SessionState}
use Rattle.session_scopes.proofs.SessionLemmas.{handles_inside, session_outside}
use Rattle.session_scopes.proofs.session.Session.end_transaction.Goals as goal

pub invariant_of-self : goal.invariant_of-self
invariant_of-self c =
    let long = ap (λ (s : SessionState). length s.frames.scopes) c.self.view_is in
    let well = ap (λ (s : SessionState). s.failed) c.self.view_is ∙ c.requires.well in
    let counts = handles_inside c.self.inside.failed c.self.inside.frames.scopes (length c.self.inside.handles.handles) well c.self.invariant.handled in
    session_outside c.self.inside.mapping c.self.inside.arena c.commit_all.new.arena c.self.inside.frames.scopes c.clear.new.self.scopes c.self.inside.failed c.self.inside.failed c.self.inside.handles c.self.inside.handles
    (ap (λ (f : Framed). f.scopes) c.clear.ensures) well (omega (arith, long, counts, c.requires.inside))
    (c.commit_all.ensures.keeps.fits c.self.inside.mapping c.self.invariant.fit) c.commit_all.ensures.keeps.classes c.self.invariant
