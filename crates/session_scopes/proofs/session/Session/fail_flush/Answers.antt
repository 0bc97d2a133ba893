use Rattle.std.proofs.Common.{◌≤◌, ◌-◌, ℕ, true, length, ap, ◌∙◌, arith}
use Rattle.savepoints.specs.Scopes.{Framed}
use Rattle.savepoints.proofs.KeyLemmas.{keys_at, keys_left}
use Rattle.session_scopes.specs.SessionState.{SessionState}
use Rattle.session_scopes.proofs.SessionLemmas.{around_long, around_scopes, handles_inside, session_with}
use Rattle.session_scopes.proofs.session.Session.fail_flush.Goals as goal

pub restore-requires : goal.restore-requires
restore-requires c =
    let long = ap (λ (s : SessionState). length s.frames.scopes) c.self.view_is in record { depth = (omega (arith, long, c.depth-depth.ensures.depth, c.requires.inside), omega (arith, c.depth-depth.ensures.depth)) }

pub invariant_of-self : goal.invariant_of-self
invariant_of-self c =
    let scopes = c.self.inside.frames.scopes in
    let depth = c.depth-depth.result in
    let long = ap (λ (s : SessionState). length s.frames.scopes) c.self.view_is in
    let well = ap (λ (s : SessionState). s.failed) c.self.view_is ∙ c.requires.well in
    let counts = handles_inside c.self.inside.failed scopes (length c.self.inside.handles.handles) well c.self.invariant.handled in
    let above : 1 ≤ depth = omega (arith, long, c.depth-depth.ensures.depth, c.requires.inside) in
    let within : depth ≤ length scopes = omega (arith, c.depth-depth.ensures.depth) in
    let left = around_long depth c.self.inside.frames c.restore.new.self above within c.restore.ensures.scopes in
    session_with c.self.inside.mapping c.self.inside.arena c.restore.new.arena scopes c.restore.new.self.scopes c.self.inside.failed true c.self.inside.handles c.self.inside.handles
    (c.restore.ensures.keeps.fits c.self.inside.mapping (keys_at c.self.inside.mapping c.self.inside.arena depth scopes above within c.self.invariant.keys) c.self.invariant.fit)
    c.restore.ensures.keeps.classes
    (keys_left c.self.inside.mapping c.self.inside.arena (length scopes - (depth - 1)) scopes c.restore.new.self.scopes
    (ap (λ (f : Framed). f.scopes) c.restore.ensures.scopes ∙ around_scopes depth c.self.inside.frames) c.self.invariant.keys)
    (omega (arith, counts, left, c.depth-depth.ensures.depth))
    c.self.invariant

pub returns-clause-scopes : goal.returns-clause-scopes
returns-clause-scopes c =
    let long = ap (λ (s : SessionState). length s.frames.scopes) c.self.view_is in
    let depth = c.depth-depth.result in
    let above : 1 ≤ depth = omega (arith, long, c.depth-depth.ensures.depth, c.requires.inside) in
    around_long depth c.self.inside.frames c.restore.new.self above (omega (arith, c.depth-depth.ensures.depth)) c.restore.ensures.scopes ∙ ap (λ (n : ℕ). n - 1) (c.depth-depth.ensures.depth ∙ long)
