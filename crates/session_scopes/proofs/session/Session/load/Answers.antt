use Rattle.std.proofs.Common.{ap, inr, sym, ◌∙◌}
use Rattle.session_scopes.specs.SessionState.{SessionState}
use Rattle.session_scopes.proofs.GrownLemmas.{session_grown}
use Rattle.session_scopes.proofs.LoadLemmas.{early_taken, load_kept, load_may, load_shown, loaded, loaded_early, loaded_ran_out, loaded_refused, lost_kept, refused_ran_out, seen}
use Rattle.session_scopes.proofs.session.Session.load.Goals as goal

pub invariant_of-self : goal.invariant_of-self
invariant_of-self g c =
    session_grown c.self.inside.mapping c.self.inside.arena c.take-done.new.arena c.self.inside.frames.scopes c.self.inside.failed c.self.inside.handles c.take-done.ensures.fits c.take-done.ensures.grows c.self.invariant

-- it answered

pub returns-in-Ok-noted-clause-step : goal.returns-in-Ok-noted-clause-step
returns-in-Ok-noted-clause-step g c = let moment = g.K.Keeper.moment in let program = g.L.ObjectLoad.program c.args.load in
    seen moment program {new = c.take-done.new.keeper} c.self.view_is c.new-notes.ensures (loaded moment (program c.self.inside.mapping) c.in-Ok-noted.ensures.ok) c.in-Ok.ensures.step

pub returns-in-Ok-noted-clause-kept : goal.returns-in-Ok-noted-clause-kept
returns-in-Ok-noted-clause-kept g c = load_kept c.self.view_is c.requires.in_step.1 c.in-Ok.ensures.grows c.in-Ok-noted.ensures.rest c.in-Ok-noted.ensures.scopes c.in-Ok.ensures.depth

-- it answered, and memory ran out behind it

pub returns-in-Err-noted-clause-step : goal.returns-in-Err-noted-clause-step
returns-in-Err-noted-clause-step g c = let moment = g.K.Keeper.moment in let program = g.L.ObjectLoad.program c.args.load in
    seen moment program {new = c.take-done.new.keeper} c.self.view_is c.new-notes.ensures (loaded_ran_out moment (program c.self.inside.mapping)) c.in-Ok.ensures.step

pub returns-in-Err-noted-clause-kept : goal.returns-in-Err-noted-clause-kept
returns-in-Err-noted-clause-kept g c = lost_kept c.self.view_is c.in-Ok.ensures.grows c.take_in-noted.ensures.rest c.take_in-noted.ensures.scopes

-- memory or the store ended it early

pub returns-then-ends_early-clause-step : goal.returns-then-ends_early-clause-step
returns-then-ends_early-clause-step g c = let moment = g.K.Keeper.moment in let program = g.L.ObjectLoad.program c.args.load in
    seen moment program {new = c.take-done.new.keeper} c.self.view_is c.new-notes.ensures (loaded_early moment (program c.self.inside.mapping) (sym c.ends_early.ensures ∙ c.if-ends_early.true)) c.in-Err.ensures.step

pub returns-then-ends_early-clause-kept : goal.returns-then-ends_early-clause-kept
returns-then-ends_early-clause-kept g c = load_kept c.self.view_is c.requires.in_step.1 c.in-Err.ensures.grows c.take_in-noted.ensures.rest c.take_in-noted.ensures.scopes c.in-Err.ensures.depth

pub returns-then-ends_early-clause-refuses : goal.returns-then-ends_early-clause-refuses
returns-then-ends_early-clause-refuses g c = inr (load_may (g.L.ObjectLoad.can_refuse c.args.load) c.self.view_is (sym (ap (λ (s : SessionState). s.graph) c.take_in-noted.ensures.rest)) c.in-Err.ensures.refuses)

pub returns-then-ends_early-clause-shown : goal.returns-then-ends_early-clause-shown
returns-then-ends_early-clause-shown g c =
    inr (load_shown (g.L.ObjectLoad.is_shown c.args.load) c.self.view_is c.new-notes.ensures (sym (ap (λ (s : SessionState). s.graph) c.take_in-noted.ensures.rest)) (early_taken c.in-Err.refusal (sym c.ends_early.ensures ∙ c.if-ends_early.true)) c.in-Err.ensures.shown)

-- it was refused

pub returns-in-Ok-noted-2-clause-step : goal.returns-in-Ok-noted-2-clause-step
returns-in-Ok-noted-2-clause-step g c = let moment = g.K.Keeper.moment in let program = g.L.ObjectLoad.program c.args.load in
    seen moment program {new = c.take-done.new.keeper} c.self.view_is c.new-notes.ensures
    (loaded_refused moment (program c.self.inside.mapping) (sym c.ends_early.ensures ∙ c.if-ends_early.false) c.in-Ok-noted-2.ensures.ok) c.in-Err.ensures.step

pub returns-in-Ok-noted-2-clause-kept : goal.returns-in-Ok-noted-2-clause-kept
returns-in-Ok-noted-2-clause-kept g c = load_kept c.self.view_is c.requires.in_step.1 c.in-Err.ensures.grows c.in-Ok-noted-2.ensures.rest c.in-Ok-noted-2.ensures.scopes c.in-Err.ensures.depth

pub returns-in-Ok-noted-2-clause-refuses : goal.returns-in-Ok-noted-2-clause-refuses
returns-in-Ok-noted-2-clause-refuses g c = inr (load_may (g.L.ObjectLoad.can_refuse c.args.load) c.self.view_is (sym (ap (λ (s : SessionState). s.graph) c.in-Ok-noted-2.ensures.rest)) c.in-Err.ensures.refuses)

pub returns-in-Ok-noted-2-clause-shown : goal.returns-in-Ok-noted-2-clause-shown
returns-in-Ok-noted-2-clause-shown g c =
    inr (load_shown (g.L.ObjectLoad.is_shown c.args.load) c.self.view_is c.new-notes.ensures (sym (ap (λ (s : SessionState). s.graph) c.in-Ok-noted-2.ensures.rest)) (λ own. c.in-Ok-noted-2.ensures.ok) c.in-Err.ensures.shown)

-- it was refused, and memory ran out behind it

pub returns-in-Err-noted-2-clause-step : goal.returns-in-Err-noted-2-clause-step
returns-in-Err-noted-2-clause-step g c = let moment = g.K.Keeper.moment in let program = g.L.ObjectLoad.program c.args.load in
    seen moment program {new = c.take-done.new.keeper} c.self.view_is c.new-notes.ensures (refused_ran_out moment (program c.self.inside.mapping) (sym c.ends_early.ensures ∙ c.if-ends_early.false)) c.in-Err.ensures.step

pub returns-in-Err-noted-2-clause-kept : goal.returns-in-Err-noted-2-clause-kept
returns-in-Err-noted-2-clause-kept g c = lost_kept c.self.view_is c.in-Err.ensures.grows c.take_in-noted.ensures.rest c.take_in-noted.ensures.scopes
