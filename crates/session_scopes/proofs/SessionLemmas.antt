-- What every session keeps, as its objects change and its scopes begin and end.
use Rattle.std.proofs.Common.{◌≡◌, ℕ, ◌-◌, ◌≤◌, suc, Bool, true, false, List, [], ◌∷◌, length, drop, Result, Ok, Err, OnOk, refl, sym, ap, ◌∙◌, subst, arith, length-drop}
use Rattle.std.specs.Prelude.{OnErr}
use Rattle.std.specs.List.{All}
use Rattle.std.proofs.lemmas.List.{get_or_append_left, length-append}
use Rattle.std.proofs.lemmas.List.Elements.{All-nil}
use Rattle.base_core.specs.declared.ids.ClassId.{ClassId}
use Rattle.base_core.specs.declared.ids.ObjId.{ObjId}
use Rattle.class_mapping.specs.Mapped.{Mapped}
use Rattle.object_arena.specs.declared.object.Object.{Object}
use Rattle.object_arena.specs.Graph.{Graph, IsObject, fresh_object, no_object, object_at, place_of, with_fresh}
use Rattle.object_arena.specs.Fit.{IsFit}
use Rattle.object_arena.specs.Every.{classes_of}
use Rattle.object_arena.proofs.ClassLemmas.{classes_long}
use Rattle.savepoints.specs.declared.scope.Scope.{Scope}
use Rattle.savepoints.specs.Scopes.{Framed, HasKeys, around, begun_at, scope_limit}
use Rattle.savepoints.proofs.KeyLemmas.{all_kept, all_made, class_at}
use Rattle.session_scopes.specs.Handles.{Drawn, without_innermost}
use Rattle.session_scopes.specs.SessionState.{AreThereStill, GoesOn, IsMadeOf, IsSession, SameObjects, SessionState, depth_in}

-- ---- as many handles as savepoints

-- where no flush failed the scopes in progress are the open ones
pub open_only : (failed : Bool) (scopes : List Scope) → failed ≡ false → depth_in failed scopes ≡ length scopes
open_only true scopes well = absurd cc
open_only false scopes well = refl

-- there is one handle for each savepoint
pub handles_inside : (failed : Bool) (scopes : List Scope) (n : ℕ) → failed ≡ false → n ≡ depth_in failed scopes - 1 → n ≡ length scopes - 1
handles_inside failed scopes n well counts = counts ∙ ap (λ (k : ℕ). k - 1) (open_only failed scopes well)

-- ---- scopes that are left

pub around_scopes : (depth : ℕ) (frames : Framed) → (around depth frames).scopes ≡ drop (length frames.scopes - (depth - 1)) frames.scopes
unfolding around
around_scopes depth frames = refl

pub around_long : (depth : ℕ) (frames now : Framed) → 1 ≤ depth → depth ≤ length frames.scopes → now ≡ around depth frames → length now.scopes ≡ depth - 1
around_long depth frames now above within is =
    let long : length now.scopes ≡ length frames.scopes - (length frames.scopes - (depth - 1)) =
    ap (λ (f : Framed). length f.scopes) is ∙ ap length (around_scopes depth frames) ∙ length-drop (length frames.scopes - (depth - 1)) frames.scopes in
    omega (arith, long)

-- ---- what is kept

-- objects that change, each in its class, with these scopes and handles
pub session_with : (mapped : Mapped) (old new : Graph) (scopes left : List Scope) (failed later : Bool) (drawn now : Drawn) → IsFit mapped new → classes_of new ≡ classes_of old → All (HasKeys mapped old) left → length now.handles ≡ depth_in later left - 1
    → IsSession mapped old scopes failed drawn → IsSession mapped new left later now
session_with mapped old new scopes left failed later drawn now fit same keys handled session = record {
  fit = fit;
  keys = all_kept mapped old new left same keys;
  handled = handled;
}

-- objects that change, each in its class
pub session_kept : (mapped : Mapped) (old new : Graph) (frames now : Framed) (failed : Bool) (drawn : Drawn) → IsFit mapped new → classes_of new ≡ classes_of old → now.scopes ≡ frames.scopes → IsSession mapped old frames.scopes failed drawn → IsSession mapped new now.scopes failed drawn
session_kept mapped old new frames now failed drawn fit same scopes session =
    subst (λ (left : List Scope). IsSession mapped new left failed drawn) (sym scopes) (session_with mapped old new frames.scopes frames.scopes failed failed drawn drawn fit same session.keys session.handled session)

-- no scope is left, and no handle
pub session_outside : (mapped : Mapped) (old new : Graph) (scopes left : List Scope) (failed later : Bool) (drawn now : Drawn) → left ≡ [] → later ≡ false → length now.handles ≡ 0 → IsFit mapped new → classes_of new ≡ classes_of old
    → IsSession mapped old scopes failed drawn → IsSession mapped new left later now
session_outside mapped old new scopes left failed later drawn now none well handles fit same session =
    session_with mapped old new scopes left failed later drawn now fit same (subst (All (HasKeys mapped old)) (sym none) (All-nil (HasKeys mapped old)))
    (let long : depth_in later left ≡ length left = open_only later left well in
    let zero_long : length left ≡ 0 = ap (λ (s : List Scope). length s) none in
    omega (arith, long, zero_long, handles)) session

-- a scope has begun
pub session_deeper : (mapped : Mapped) (graph : Graph) (old new : Framed) (failed : Bool) (drawn now : Drawn) → new ≡ record old { scopes = begun_at graph ∷ old.scopes } → All (HasKeys mapped graph) new.scopes → failed ≡ false → length now.handles ≡ length old.scopes
    → IsSession mapped graph old.scopes failed drawn → IsSession mapped graph new.scopes failed now
session_deeper mapped graph old new failed drawn now is keys well handles session =
    let long : length new.scopes ≡ suc (length old.scopes) = ap (λ (f : Framed). length f.scopes) is in
    let open_now : depth_in failed new.scopes ≡ length new.scopes = open_only failed new.scopes well in
    record {
      fit = session.fit;
      keys = keys;
      handled = omega (arith, open_now, long, handles);
    }

-- the transaction begins, unless memory ran out
pub session_entered : {E : Type 0} (mapped : Mapped) (graph : Graph) (old new : Framed) (failed : Bool) (drawn : Drawn) (r : Result (Unit {0}) E) → OnOk r (new ≡ record old { scopes = begun_at graph ∷ old.scopes }) → OnErr r (new ≡ old)
    → All (HasKeys mapped graph) new.scopes → failed ≡ false → old.scopes ≡ [] → IsSession mapped graph old.scopes failed drawn → IsSession mapped graph new.scopes failed drawn
session_entered mapped graph old new failed drawn (Ok u) is same keys well outside session =
    let none : length old.scopes ≡ 0 = ap (λ (s : List Scope). length s) outside in
    let open_now : depth_in failed old.scopes ≡ length old.scopes = open_only failed old.scopes well in
    session_deeper mapped graph old new failed drawn drawn is keys well (omega (arith, none, open_now, session.handled)) session
session_entered mapped graph old new failed drawn (Err e) is same keys well outside session =
    subst (λ (f : Framed). IsSession mapped graph f.scopes failed drawn) (sym same) session

-- ---- an object that is made

pub session_made : (mapped : Mapped) (old new : Graph) (class : ClassId) (scopes : List Scope) (failed : Bool) (drawn : Drawn) → IsFit mapped new → new ≡ with_fresh old mapped class → IsSession mapped old scopes failed drawn → IsSession mapped new scopes failed drawn
session_made mapped old new class scopes failed drawn fit is session = record {
  fit = fit;
  keys = all_made mapped old new class scopes is session.keys;
  handled = session.handled;
}

-- objects that change, each in its class
pub there_changed : (old new : Graph) (object : ObjId) (class : ClassId) → classes_of new ≡ classes_of old → IsMadeOf old object class → IsMadeOf new object class
there_changed old new object class same made = (
  (made.0.0, rw (classes_long old new same) made.0.1),
  class_at old new (place_of object) same (omega (arith, made.0.0, made.0.1)) ∙ made.1,
)

there_beside : (mapped : Mapped) (old : Graph) (class : ClassId) (object : ObjId) → IsObject old object → IsMadeOf (with_fresh old mapped class) object (object_at old object).class
there_beside mapped old class object made =
    let last : List Object = fresh_object mapped class ∷ [] in (
      (made.0, rw (length-append old.objects last) (omega (arith, made.1))),
      ap (λ (o : Object). o.class) (get_or_append_left old.objects last no_object (place_of object) (omega (arith, made.0, made.1))),
    )

-- each object is there still, beside the one that was made
pub there_still : (mapped : Mapped) (old mid new : Graph) (class : ClassId) → mid ≡ with_fresh old mapped class → classes_of new ≡ classes_of mid → AreThereStill old new
there_still mapped old mid new class is same object made =
    there_changed mid new object (object_at old object).class same (subst (λ (g : Graph). IsMadeOf g object (object_at old object).class) (sym is) (there_beside mapped old class object made))

-- the object that was made
pub there_made : (mapped : Mapped) (mid new : Graph) (object : ObjId) (class : ClassId) → IsObject mid object → object_at mid object ≡ fresh_object mapped class → classes_of new ≡ classes_of mid → IsMadeOf new object class
there_made mapped mid new object class made is same = there_changed mid new object class same (made, ap (λ (o : Object). o.class) is)

-- ---- sessions that go on

-- a step of a session that makes no object
pub goes_on : {old new : SessionState} → SameObjects old new → GoesOn old new
goes_on {old = old} {new = new} same = record {
  mapping = same.mapping;
  there = λ object made. there_changed old.graph new.graph object (object_at old.graph object).class same.classes (made, refl);
  drawn = same.drawn;
}

pub goes_more : {old mid new : SessionState} → GoesOn old mid → GoesOn mid new → GoesOn old new
goes_more {new = new} p q = record {
  mapping = q.mapping ∙ p.mapping;
  there = λ object made. let still = p.there object made in subst (λ (class : ClassId). IsMadeOf new.graph object class) still.1 (q.there object still.0);
  drawn = omega (arith, p.drawn, q.drawn);
}

-- ---- handles

pub one_fewer : (old now : Drawn) → now ≡ without_innermost 1 old → length now.handles ≡ length old.handles - 1
one_fewer old now is = ap (λ (d : Drawn). length d.handles) is ∙ length-drop 1 old.handles

pub fewer : (count : ℕ) (old now : Drawn) → now ≡ without_innermost count old → length now.handles ≡ length old.handles - count
fewer count old now is = ap (λ (d : Drawn). length d.handles) is ∙ length-drop count old.handles

-- no more than scopes may be
pub handles_few : (failed : Bool) (scopes : List Scope) (n : ℕ) → n ≡ depth_in failed scopes - 1 → length scopes ≤ scope_limit → n ≤ scope_limit
handles_few true scopes n counts few = omega (arith, counts, few)
handles_few false scopes n counts few = omega (arith, counts, few)
