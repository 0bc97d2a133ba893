use Rattle.std.proofs.Common.{◌≡◌, ◌-◌, length, refl, ap, ◌∙◌, arith, length-drop}
use Rattle.savepoints.proofs.KeyLemmas.{keys_left}
use Rattle.session_scopes.specs.SessionState.{SessionState}
use Rattle.session_scopes.proofs.SessionLemmas.{handles_inside, one_fewer, open_only, session_with}
use Rattle.session_scopes.proofs.session.Session.release.Goals as goal

pub end-requires : goal.end-requires
end-requires c =
    let long = ap (λ (s : SessionState). length s.frames.scopes) c.self.view_is in
    let counts = handles_inside c.self.inside.failed c.self.inside.frames.scopes (length c.self.inside.handles.handles) (ap (λ (s : SessionState). s.failed) c.self.view_is ∙ c.requires.well) c.self.invariant.handled in
    omega (arith, long, counts, c.requires.inside)

pub invariant_of-self : goal.invariant_of-self
invariant_of-self c =
    let well = ap (λ (s : SessionState). s.failed) c.self.view_is ∙ c.requires.well in
    let counts = handles_inside c.self.inside.failed c.self.inside.frames.scopes (length c.self.inside.handles.handles) well c.self.invariant.handled in
    let left : length c.release.new.self.scopes ≡ length c.self.inside.frames.scopes - 1 = ap length c.release.ensures.scopes ∙ length-drop 1 c.self.inside.frames.scopes in
    session_with c.self.inside.mapping c.self.inside.arena c.self.inside.arena c.self.inside.frames.scopes c.release.new.self.scopes c.self.inside.failed c.self.inside.failed c.self.inside.handles c.end.new.self c.self.invariant.fit refl
    (keys_left c.self.inside.mapping c.self.inside.arena 1 c.self.inside.frames.scopes c.release.new.self.scopes c.release.ensures.scopes c.self.invariant.keys)
    (omega (arith, counts, left, one_fewer c.self.inside.handles c.end.new.self c.end.ensures, open_only c.self.inside.failed c.release.new.self.scopes well))
    c.self.invariant
