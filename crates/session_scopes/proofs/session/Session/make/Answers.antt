use Rattle.std.proofs.Common.{◌≡◌, None, refl, subst, rules}
use Rattle.session_scopes.specs.SessionState.{AreThereStill, SessionState}
use Rattle.session_scopes.specs.Making.{first_given_fault}
use Rattle.session_scopes.proofs.MakingLemmas.{made_is}
use Rattle.session_scopes.proofs.SessionLemmas.{session_kept, session_made, there_made, there_still}
use Rattle.session_scopes.proofs.session.Session.make.Goals as goal

pub invariant_of-self-2 : goal.invariant_of-self-2
invariant_of-self-2 c =
    let made = session_made c.self.inside.mapping c.self.inside.arena c.make.new.self c.args.class c.self.inside.frames.scopes c.self.inside.failed c.self.inside.handles (c.in_ok-object.ensures.fits c.self.invariant.fit) c.in_ok-object.ensures.made c.self.invariant in
    session_kept c.self.inside.mapping c.make.new.self c.put_given.new.arena c.self.inside.frames c.self.inside.frames c.self.inside.failed c.self.inside.handles c.put_given.ensures.fits c.put_given.ensures.classes refl made

pub returns-clause-step : goal.returns-clause-step
returns-clause-step c =
    let none : first_given_fault c.self.inside.mapping c.args.class c.args.given.now ≡ None = search rules in
    made_is c.args.class c.args.given.now c.in_ok-copy.copy.items _ c.args.self.now c.in_ok-object.object c.make.new.self c.put_given.new.arena c.self.view_is none c.in_ok-object.ensures.step c.in_ok-copy.ensures c.put_given.ensures.put

pub returns-clause-made : goal.returns-clause-made
returns-clause-made c = there_made c.self.inside.mapping c.make.new.self c.put_given.new.arena c.in_ok-object.object c.args.class c.in_ok-object.ensures.exists c.in_ok-object.ensures.fresh c.put_given.ensures.classes

pub returns-clause-stay : goal.returns-clause-stay
returns-clause-stay c =
    subst (λ (s : SessionState). AreThereStill s.graph c.put_given.new.arena) c.self.view_is
    (there_still c.self.inside.mapping c.self.inside.arena c.make.new.self c.put_given.new.arena c.args.class c.in_ok-object.ensures.made c.put_given.ensures.classes)
