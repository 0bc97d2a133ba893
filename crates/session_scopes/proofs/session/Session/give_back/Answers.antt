use Rattle.std.proofs.Common.{refl, subst, sym}
use Rattle.session_scopes.specs.Keeping.{IsKeptOf}
use Rattle.session_scopes.specs.SessionState.{SessionState}
use Rattle.session_scopes.proofs.GivenLemmas.{can_hold, given_fit}
use Rattle.session_scopes.proofs.SessionLemmas.{session_kept}
use Rattle.session_scopes.proofs.session.Session.give_back.Goals as goal

pub give_back-requires : goal.give_back-requires
give_back-requires c =
    can_hold c.self.inside.mapping c.args.kept c.self.inside.arena (subst (λ (s : SessionState). IsKeptOf s.mapping c.args.kept s.graph) (sym c.self.view_is) c.requires) c.self.invariant.fit

pub invariant_of-self : goal.invariant_of-self
invariant_of-self c =
    let kept = subst (λ (s : SessionState). IsKeptOf s.mapping c.args.kept s.graph) (sym c.self.view_is) c.requires in
    session_kept c.self.inside.mapping c.self.inside.arena c.give_back.new.arena c.self.inside.frames c.self.inside.frames c.self.inside.failed c.self.inside.handles
    (given_fit c.self.inside.mapping c.args.kept c.self.inside.arena kept c.give_back.new.arena c.give_back.ensures.back c.self.invariant.fit) c.give_back.ensures.classes refl c.self.invariant
