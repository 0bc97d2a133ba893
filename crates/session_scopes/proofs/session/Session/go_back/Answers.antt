use Rattle.std.proofs.Common.{◌≤◌, ◌-◌, false, length, ap, ◌∙◌, arith}
use Rattle.savepoints.specs.Scopes.{Framed}
use Rattle.savepoints.proofs.KeyLemmas.{keys_at, keys_left}
use Rattle.session_scopes.specs.SessionState.{SessionState}
use Rattle.session_scopes.proofs.SessionLemmas.{around_long, around_scopes, fewer, session_with}
use Rattle.session_scopes.proofs.session.Session.go_back.Goals as goal

pub restore-requires : goal.restore-requires
restore-requires c =
    let long = ap (λ (s : SessionState). length s.frames.scopes) c.self.view_is in record { depth = (omega (arith, c.requires.depth.0), omega (arith, long, c.requires.depth.1)) }

pub invariant_of-self : goal.invariant_of-self
invariant_of-self c =
    let long = ap (λ (s : SessionState). length s.frames.scopes) c.self.view_is in
    let handles = ap (λ (s : SessionState). length s.drawn.handles) c.self.view_is in
    let above : 1 ≤ c.args.depth = c.requires.depth.0 in
    let within : c.args.depth ≤ length c.self.inside.frames.scopes = omega (arith, long, c.requires.depth.1) in
    let left = around_long c.args.depth c.self.inside.frames c.restore.new.self above within c.restore.ensures.scopes in
    session_with c.self.inside.mapping c.self.inside.arena c.restore.new.arena c.self.inside.frames.scopes c.restore.new.self.scopes c.self.inside.failed false c.self.inside.handles c.end.new.self
    (c.restore.ensures.keeps.fits c.self.inside.mapping (keys_at c.self.inside.mapping c.self.inside.arena c.args.depth c.self.inside.frames.scopes above within c.self.invariant.keys) c.self.invariant.fit)
    c.restore.ensures.keeps.classes
    (keys_left c.self.inside.mapping c.self.inside.arena (length c.self.inside.frames.scopes - (c.args.depth - 1)) c.self.inside.frames.scopes c.restore.new.self.scopes
    (ap (λ (f : Framed). f.scopes) c.restore.ensures.scopes ∙ around_scopes c.args.depth c.self.inside.frames) c.self.invariant.keys)
    (omega (arith, handles, left, fewer c.args.count c.self.inside.handles c.end.new.self c.end.ensures, c.requires.left))
    c.self.invariant

pub returns-clause-scopes : goal.returns-clause-scopes
returns-clause-scopes c =
    let long = ap (λ (s : SessionState). length s.frames.scopes) c.self.view_is in
    around_long c.args.depth c.self.inside.frames c.restore.new.self c.requires.depth.0 (omega (arith, long, c.requires.depth.1)) c.restore.ensures.scopes
