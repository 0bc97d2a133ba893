-- Lines that were performed, put together of calls of the session and of what is told of them.
use Rattle.std.proofs.Common.{◌≡◌, ℕ, List, length, Result, Ok, Err, IfErr, IfOk, IsErrAnd, refl, sym, ap, ◌∙◌, subst, arith}
use Rattle.base_core.specs.declared.ids.ClassId.{ClassId}
use Rattle.base_core.specs.declared.ids.ObjId.{ObjId}
use Rattle.base_core.specs.declared.refusal.Refusal.{Refusal}
use Rattle.base_core.specs.declared.refusal.Refusal.TheVariants.{Memory}
use Rattle.class_types.specs.Rules.{Rules}
use Rattle.class_mapping.specs.Mapped.{IsClass, Mapped}
use Rattle.keeper_core.specs.Alone.{IsQuiet}
use Rattle.keeper_core.specs.Store.{Store}
use Rattle.keeper_core.specs.Programs.{Run, ◌>>=◌, give}
use Rattle.keeper_core.specs.Moment.{Moment}
use Rattle.keeper_core.specs.Beside.{on_own}
use Rattle.keeper_core.proofs.Lifting.{chosen, quietly}
use Rattle.keeper_core.proofs.Sequence.{done, no_memory, then_err, then_ok}
use Rattle.session_scopes.specs.SessionState.{AreThereStill, IsInStep, IsMadeOf, SessionState}
use Rattle.session_calls.specs.Calling.{IsSessionCall}
use Rattle.session_calls.specs.Parts.{World}
use Rattle.shell_parts.specs.declared.names.Bound.TheVariants.{Object}
use Rattle.command_resolve.specs.declared.answer.Answer.{Answer}
use Rattle.command_resolve.specs.declared.answer.Answer.TheVariants as answer
use Rattle.command_resolve.specs.declared.resolved.Resolved.{Resolved}
use Rattle.command_resolve.specs.Standing.{IsAnswer}
use Rattle.session_perform.specs.Performing as spec
use Rattle.session_perform.specs.Performing.{IsPerformed, as_it_is, nothing_told, program_of_resolved, telling}

-- ---- what stays

there_itself : (session : SessionState) → AreThereStill session.graph session.graph
there_itself session object made = (made, refl)

-- ---- the answer of a call

-- it is told, and what is told is there
pub told : {A X K : Type 0} (moment : K → Moment Store) {v : X → A} {m : World → Run World A} (tell : A → Answer) {old new : SessionState × K} {x : X}
    → IsAnswer new.0.mapping new.0.graph new.0.drawn.drawn (tell (v x)) → IsSessionCall moment v m old (Ok x) new → IsPerformed moment (telling tell m) old (Ok (tell (v x))) new
told moment tell {old = old} {new = new} there p = record {
  step = then_ok (λ a. give (tell a)) p.step (done {v = λ (a : Answer). a} refl);
  mapping = p.kept.same.mapping;
  stay = p.kept.same.there;
  drawn = p.kept.same.drawn;
  in_step = p.kept.in_step;
  answer = there;
}

-- it was refused
pub untold : {A X K : Type 0} (moment : K → Moment Store) {v : X → A} {m : World → Run World A} (tell : A → Answer) {old new : SessionState × K} {e : Refusal}
    → IsSessionCall moment v m old (Err e) new → IsPerformed moment (telling tell m) old (Err e) new
untold moment tell {old = old} {new = new} p = record {
  step = then_err (λ a. give (tell a)) p.step;
  mapping = p.kept.same.mapping;
  stay = p.kept.same.there;
  drawn = p.kept.same.drawn;
  in_step = p.kept.in_step;
  answer = tt;
}

pass_on : {K : Type 0} (moment : K → Moment Store) (m : World → Run World Answer) (old new : SessionState × K) (e : Refusal) (r : Result Answer Refusal) → IsErrAnd r (λ d. d ≡ e) → IsPerformed moment m old (Err e) new → IsPerformed moment m old r new
pass_on moment m old new e (Ok x) is p = absurd is
pass_on moment m old new e (Err d) is p = subst (λ (c : Refusal). IsPerformed moment m old (Err c) new) (sym is) p

-- the same refusal, as the answer of the call around
pub passed : {K : Type 0} (moment : K → Moment Store) {m : World → Run World Answer} {old new : SessionState × K} {e : Refusal} {r : Result Answer Refusal} → IsErrAnd r (λ d. d ≡ e) → IsPerformed moment m old (Err e) new → IsPerformed moment m old r new
passed moment {m = m} {old = old} {new = new} {e = e} {r = r} is p = pass_on moment m old new e r is p

nothing_of : {K : Type 0} (moment : K → Moment Store) (m : World → Run World (Unit {0})) (old new : SessionState × K) (r : Result (Unit {0}) Refusal) → IsSessionCall moment (λ (u : Unit {0}). u) m old r new → IsPerformed moment (spec.quietly m) old (nothing_told r) new
nothing_of moment m old new (Ok u) p = told moment (λ (u : Unit {0}). answer.Nothing) tt p
nothing_of moment m old new (Err e) p = untold moment (λ (u : Unit {0}). answer.Nothing) p

-- nothing is told of it
pub performs : {K : Type 0} (moment : K → Moment Store) {m : World → Run World (Unit {0})} {old new : SessionState × K} {r : Result (Unit {0}) Refusal} {a : Result Answer Refusal} → a ≡ nothing_told r → IsSessionCall moment (λ (u : Unit {0}). u) m old r new
    → IsPerformed moment (spec.quietly m) old a new
performs moment {m = m} {old = old} {new = new} {r = r} is p = subst (λ (b : Result Answer Refusal). IsPerformed moment (spec.quietly m) old b new) (sym is) (nothing_of moment m old new r p)

-- ---- what is told of the session as it is

pub as_it_stands : {K : Type 0} (moment : K → Moment Store) (tell : SessionState → Answer) {own : SessionState} {keeper : K} {a : Answer} → a ≡ tell own → IsAnswer own.mapping own.graph own.drawn.drawn (tell own) → IsInStep own (moment keeper)
    → IsPerformed moment (as_it_is tell) (own, keeper) (Ok a) (own, keeper)
as_it_stands moment tell {own = own} {keeper = keeper} is there in_step =
    subst (λ (b : Answer). IsPerformed moment (as_it_is tell) (own, keeper) (Ok b) (own, keeper)) (sym is) (record {
      step = chosen moment (λ session. give (tell session)) (done {v = λ (a : Answer). a} refl);
      mapping = refl;
      stay = there_itself own;
      drawn = omega arith;
      in_step = in_step;
      answer = there;
    })

pub stands : {K : Type 0} (moment : K → Moment Store) (shown : Answer) {own : SessionState} {keeper : K} {a : Answer} → a ≡ shown → IsAnswer own.mapping own.graph own.drawn.drawn shown → IsInStep own (moment keeper)
    → IsPerformed moment (give shown) (own, keeper) (Ok a) (own, keeper)
stands moment shown {own = own} {keeper = keeper} is there in_step =
    subst (λ (b : Answer). IsPerformed moment (give shown) (own, keeper) (Ok b) (own, keeper)) (sym is) (record {
      step = done {v = λ (a : Answer). a} refl;
      mapping = refl;
      stay = there_itself own;
      drawn = omega arith;
      in_step = in_step;
      answer = there;
    })

-- ---- an object is made

module _ {K : Type 0} (moment : K → Moment Store) (name : List ℕ) (class : ClassId) (make : SessionState → Run SessionState ObjId) where
  made_step : (own now : SessionState) (keeper : K) → now ≡ record own { graph = now.graph } → IsInStep own (moment keeper) → IsInStep now (moment keeper)
  made_step own now keeper rest in_step = (in_step.0, in_step.1 ∙ sym (ap (λ (s : SessionState). length s.frames.scopes) rest))

  pub makes : {own now : SessionState} {keeper : K} {object : ObjId} → IsQuiet (λ (o : ObjId). o) (make own) (Ok object) now → now ≡ record own { graph = now.graph } → IsMadeOf now.graph object class → AreThereStill own.graph now.graph
      → IsClass own.mapping class → IsInStep own (moment keeper) → IsPerformed moment (telling (λ o. answer.Bind name (Object o class)) (on_own make)) (own, keeper) (Ok (answer.Bind name (Object object class))) (now, keeper)
  makes {own = own} {now = now} {keeper = keeper} {object = object} quiet rest made stay declared in_step = record {
    step = then_ok (λ o. give (answer.Bind name (Object o class))) (quietly moment {v = λ (o : ObjId). o} make {own = own} {now = now} {keeper = keeper} {r = Ok object} quiet) (done {v = λ (a : Answer). a} refl);
    mapping = ap (λ (s : SessionState). s.mapping) rest;
    stay = stay;
    drawn = omega (arith, ap (λ (s : SessionState). s.drawn.drawn) rest);
    in_step = made_step own now keeper rest in_step;
    answer = (made, subst (λ (m : Mapped). IsClass m class) (sym (ap (λ (s : SessionState). s.mapping) rest)) declared);
  }

  pub makes_not : {own now : SessionState} {keeper : K} {e : Refusal} → IsQuiet (λ (o : ObjId). o) (make own) (Err e) now → now ≡ record own { graph = now.graph } → AreThereStill own.graph now.graph → IsInStep own (moment keeper)
      → IsPerformed moment (telling (λ o. answer.Bind name (Object o class)) (on_own make)) (own, keeper) (Err e) (now, keeper)
  makes_not {own = own} {now = now} {keeper = keeper} {e = e} quiet rest stay in_step = record {
    step = then_err (λ o. give (answer.Bind name (Object o class))) (quietly moment {v = λ (o : ObjId). o} make {own = own} {now = now} {keeper = keeper} {r = Err e} quiet);
    mapping = ap (λ (s : SessionState). s.mapping) rest;
    stay = stay;
    drawn = omega (arith, ap (λ (s : SessionState). s.drawn.drawn) rest);
    in_step = λ own_refusal. made_step own now keeper rest in_step;
    answer = tt;
  }

-- ---- what is told of a call and of the session after it

told_then : {X K : Type 0} (moment : K → Moment Store) {m : World → Run World X} (tell : X → SessionState → Answer) {own now : SessionState} {before after : K} {x : X} {a : Answer}
    → a ≡ tell x now → IsAnswer now.mapping now.graph now.drawn.drawn (tell x now) → IsSessionCall moment (λ (x : X). x) m (own, before) (Ok x) (now, after)
    → IsPerformed moment (m >>= λ x. as_it_is (tell x)) (own, before) (Ok a) (now, after)
told_then moment {m = m} tell {own = own} {now = now} {before = before} {after = after} {x = x} is there p =
    subst (λ (b : Answer). IsPerformed moment (m >>= λ x. as_it_is (tell x)) (own, before) (Ok b) (now, after)) (sym is) (record {
      step = then_ok (λ x. as_it_is (tell x)) p.step (chosen moment (λ session. give (tell x session)) {own = now} {now = now} {old = after} {new = after} (done {v = λ (a : Answer). a} refl));
      mapping = p.kept.same.mapping;
      stay = p.kept.same.there;
      drawn = p.kept.same.drawn;
      in_step = p.kept.in_step;
      answer = there;
    })

-- it was refused
pub untold_then : {X K : Type 0} (moment : K → Moment Store) {m : World → Run World X} (tell : X → SessionState → Answer) {own now : SessionState} {before after : K} {e : Refusal}
    → IsSessionCall moment (λ (x : X). x) m (own, before) (Err e) (now, after) → IsPerformed moment (m >>= λ x. as_it_is (tell x)) (own, before) (Err e) (now, after)
untold_then moment tell {own = own} {now = now} {before = before} {after = after} p = record {
  step = then_err (λ x. as_it_is (tell x)) p.step;
  mapping = p.kept.same.mapping;
  stay = p.kept.same.there;
  drawn = p.kept.same.drawn;
  in_step = p.kept.in_step;
  answer = tt;
}

-- there was no memory for what is told
full_then : {X K : Type 0} (moment : K → Moment Store) {m : World → Run World X} (next : X → World → Run World Answer) {own now : SessionState} {before after : K} {x : X} {e : Refusal}
    → e ≡ Memory → IsSessionCall moment (λ (x : X). x) m (own, before) (Ok x) (now, after) → IsPerformed moment (m >>= next) (own, before) (Err e) (now, after)
full_then moment {m = m} next {own = own} {now = now} {before = before} {after = after} is p =
    subst (λ (d : Refusal). IsPerformed moment (m >>= next) (own, before) (Err d) (now, after)) (sym is) (record {
      step = then_ok next p.step no_memory;
      mapping = p.kept.same.mapping;
      stay = p.kept.same.there;
      drawn = p.kept.same.drawn;
      in_step = λ own_refusal. p.kept.in_step;
      answer = tt;
    })

pub tells_then : {X K : Type 0} (moment : K → Moment Store) {m : World → Run World X} (tell : X → SessionState → Answer) {own now : SessionState} {before after : K} {x : X} (r : Result Answer Refusal)
    → IfOk r (λ a. a ≡ tell x now) → IfOk r (λ a. IsAnswer now.mapping now.graph now.drawn.drawn (tell x now)) → IfErr r (λ e. e ≡ Memory) → IsSessionCall moment (λ (x : X). x) m (own, before) (Ok x) (now, after)
    → IsPerformed moment (m >>= λ x. as_it_is (tell x)) (own, before) r (now, after)
tells_then moment tell (Ok a) is there cause p = told_then moment tell is there p
tells_then moment tell (Err e) is there cause p = full_then moment (λ x. as_it_is (tell x)) cause p

-- ---- a case of a line

pub at_case : {K : Type 0} (moment : K → Moment Store) (rules : Rules) {line other : Resolved} {old new : SessionState × K} {r : Result Answer Refusal} → line ≡ other → IsPerformed moment (program_of_resolved rules other) old r new → IsPerformed moment (program_of_resolved rules line) old r new
at_case moment rules {old = old} {new = new} {r = r} is p = subst (λ (l : Resolved). IsPerformed moment (program_of_resolved rules l) old r new) (sym is) p
