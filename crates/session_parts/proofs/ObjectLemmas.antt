-- Objects that stay of their classes, what was read of a list, what holds at Ok, and an object that has left the session.
use Rattle.std.proofs.Common.{◌≡◌, ℕ, ◌<◌, List, length, get_or, Result, Ok, Err, IfOk, OnOk, ap, ◌∙◌, arith}
use Rattle.std.proofs.lemmas.List.{get_or_default}
use Rattle.base_core.specs.declared.ids.ObjId.{ObjId}
use Rattle.object_arena.specs.declared.object.Object.{Object}
use Rattle.object_arena.specs.declared.object.State.{State}
use Rattle.object_arena.specs.Every.{classes_of}
use Rattle.object_arena.specs.Graph.{Graph, IsObject, kept_identity, object_at, place_of, with_object, with_state}
use Rattle.object_arena.proofs.ClassLemmas.{classes_long}
use Rattle.object_arena.proofs.TurnLemmas.{written_twice}
use Rattle.savepoints.proofs.KeyLemmas.{class_at}
use Rattle.session_parts.specs.Ends.{object_left, left_state, object_unmarked}

-- ---- where each object is of its class

-- one that has been made has been made still
pub made_still : (old new : Graph) (object : ObjId) → classes_of new ≡ classes_of old → IsObject old object → IsObject new object
made_still old new object same made = (made.0, rw (classes_long old new same) made.1)

-- and is of its class
pub class_still : (old new : Graph) (object : ObjId) → classes_of new ≡ classes_of old → IsObject old object → (object_at new object).class ≡ (object_at old object).class
class_still old new object same made = class_at old new (place_of object) same (omega (arith, made.0, made.1))

pub ruleset still = (made_still, class_still)

-- ---- what was read, and what holds at Ok

-- an item that was read of a list
pub read_same : {A : Type 0} (xs ys : List A) (i : ℕ) (d : A) → xs ≡ ys → i < length xs → get_or xs i d ≡ get_or ys i (get_or xs i d)
read_same {A = A} xs ys i d same less = get_or_default xs i d (get_or xs i d) less ∙ ap (λ (l : List A). get_or l i (get_or xs i d)) same

-- what holds at Ok holds of what follows of it
pub on_ok : {A E P Q : Type 0} (r : Result A E) → (P → Q) → OnOk r P → OnOk r Q
on_ok (Ok x) f p = f p
on_ok (Err e) f p = tt

pub if_ok : {A E : Type 0} {P Q : A → Type 0} (r : Result A E) → ((x : A) → P x → Q x) → IfOk r P → IfOk r Q
if_ok (Ok x) f p = f x p
if_ok (Err e) f p = tt

pub on_both : {A E P Q R : Type 0} (r : Result A E) → (P → Q → R) → OnOk r P → OnOk r Q → OnOk r R
on_both (Ok x) f p q = f p q
on_both (Err e) f p q = tt

-- an object that has left the session
pub left_is : (graph mid new : Graph) (object : ObjId) (read : Object) (state : State) → IsObject graph object → mid ≡ with_object graph object (object_unmarked (object_at graph object)) → read ≡ object_at mid object → state ≡ left_state read.state
    → new ≡ with_state mid object state → new ≡ with_object graph object (object_left (object_at graph object))
left_is graph mid new object read state made first is to second =
    written_twice (λ o. record o { state = left_state o.state; identity = kept_identity (left_state o.state) o.identity }) graph mid new object (object_unmarked (object_at graph object)) made first
    (second ∙ ap (with_state mid object) (to ∙ ap (λ (o : Object). left_state o.state) is))
