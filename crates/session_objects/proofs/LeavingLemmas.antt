-- Objects that leave a session: what becomes of one, and of several, one after another.
use Rattle.std.proofs.Common.{◌≡◌, ℕ, ◌+◌, ◌<◌, ◌≤◌, Bool, true, false, List, length, drop, get_or, refl, sym, ap, ◌∙◌}
use Rattle.std.specs.Prelude.{not, if◌then◌else◌}
use Rattle.std.specs.List.{All}
use Rattle.std.proofs.lemmas.List.{drop_all, drop_more}
use Rattle.std.proofs.lemmas.List.Elements.{All-weaker}
use Rattle.base_core.specs.declared.ids.ObjId.{ObjId}
use Rattle.object_arena.specs.declared.object.Object.{Object}
use Rattle.object_arena.specs.declared.object.State.{State}
use Rattle.object_arena.specs.declared.object.State.TheVariants.{Transient, Pending, Persistent, Deleted, Detached}
use Rattle.object_arena.specs.Every.{classes_of}
use Rattle.object_arena.specs.Graph.{Graph, IsObject, object_at, with_object}
use Rattle.object_arena.proofs.TurnLemmas.{with_same}
use Rattle.object_records.specs.Same.{same_object}
use Rattle.object_records.proofs.Differing.{differs_as}
use Rattle.session_parts.specs.Ends.{left_state, object_left}
use Rattle.session_parts.proofs.ObjectLemmas.{made_still}
use Rattle.session_scopes.specs.SessionState.{SessionState}
use Rattle.session_objects.specs.Leaving.{all_expunged, expunged_at, expunged_object, with_expunged}
use Rattle.session_objects.specs.Taking.{is_inside}
use Rattle.session_objects.proofs.TakingLemmas.{twice_not}

-- ---- one object

-- it leaves, where that is asked for
abbrev left_if : Object → Bool → Object
left_if o b = if b then object_left o else o

stays_out : (o : Object) (inside : Bool) → is_inside o.state ≡ inside → not inside ≡ true → o ≡ expunged_object o
stays_out o true is out = absurd cc
stays_out o false is out = ap (left_if o) (sym is)

left_state_of : (o : Object) (state : State) → o.state ≡ state → is_inside state ≡ true → (expunged_object o).state ≡ left_state state
left_state_of o state is inside = ap (λ (x : Object). x.state) (ap (left_if o) (ap is_inside is ∙ inside)) ∙ ap left_state is

moved_not : (o : Object) (state : State) → o.state ≡ state → o ≡ expunged_object o → not (is_inside state) ≡ true
moved_not o Transient is same = refl
moved_not o Pending is same = absurd (let h : Pending ≡ Transient = sym is ∙ ap (λ (x : Object). x.state) same ∙ left_state_of o Pending is refl in cc)
moved_not o Persistent is same = absurd (let h : Persistent ≡ Detached = sym is ∙ ap (λ (x : Object). x.state) same ∙ left_state_of o Persistent is refl in cc)
moved_not o Deleted is same = refl
moved_not o Detached is same = refl

-- it comes to differ exactly where it is in the session
pub leaving_differs : (o : Object) → is_inside o.state ≡ not (same_object o (expunged_object o))
leaving_differs o =
    twice_not (is_inside o.state)
    ∙ differs_as o (expunged_object o) (not (is_inside o.state)) (stays_out o (is_inside o.state) refl) (moved_not o o.state refl)

pub leaves_put : (graph new : Graph) (object : ObjId) (state : State) (inside : Bool) → state ≡ (object_at graph object).state → inside ≡ is_inside state → inside ≡ true
    → new ≡ with_object graph object (object_left (object_at graph object)) → new ≡ expunged_at graph object
leaves_put graph new object state inside at test is put =
    put ∙ ap (λ (b : Bool). with_object graph object (left_if (object_at graph object) b)) (sym is ∙ test ∙ ap is_inside at)

pub leaves_not : (graph : Graph) (object : ObjId) (state : State) (inside : Bool) → state ≡ (object_at graph object).state → inside ≡ is_inside state → inside ≡ false → graph ≡ expunged_at graph object
leaves_not graph object state inside at test is =
    sym (with_same graph object)
    ∙ ap (λ (b : Bool). with_object graph object (left_if (object_at graph object) b)) (sym is ∙ test ∙ ap is_inside at)

pub ruleset leavings = (leaves_put)

-- ---- objects, one after another

-- one more leaves
pub expunged_more : (objects : List ObjId) (place : ℕ) (none : ObjId) (own now end : SessionState) → place < length objects → now ≡ with_expunged (get_or objects place none) own → all_expunged (drop place objects) own ≡ end
    → all_expunged (drop (place + 1) objects) now ≡ end
expunged_more objects place none own now end less is all =
    ap (all_expunged (drop (place + 1) objects)) is ∙ sym (ap (λ (os : List ObjId). all_expunged os own) (drop_more objects place none less)) ∙ all

-- all did
pub expunged_last : (objects : List ObjId) (place : ℕ) (own end : SessionState) → length objects ≤ place → all_expunged (drop place objects) own ≡ end → own ≡ end
expunged_last objects place own end over all = sym (ap (λ (os : List ObjId). all_expunged os own) (drop_all place objects over)) ∙ all

-- objects that change, each in its class, are there still
pub objects_still : (old new : Graph) (objects : List ObjId) → classes_of new ≡ classes_of old → All (IsObject old) objects → All (IsObject new) objects
objects_still old new objects same all = All-weaker (IsObject old) (IsObject new) (λ object made. made_still old new object same made) objects all
