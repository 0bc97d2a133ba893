-- Nothing becomes of objects that are in the session already, and no identity is against them.
use Rattle.std.proofs.Common.{◌≡◌, ◌≢◌, ℕ, ◌<◌, ◌≤◌, Bool, true, false, ◌&&◌, ◌||◌, cond, List, [], ◌∷◌, length, get_or, Option, None, Some, refl, sym, ap, ◌∙◌, ⊎_elim, arith}
use Rattle.std.specs.Prelude.{not, ◌==◌, is_some, slice_set}
use Rattle.std.specs.List.{filter, list_any}
use Rattle.std.proofs.lemmas.Bool.{and_from, and_parts, cases_eq, cases_lt, eq-eqb, eqb-true}
use Rattle.std.proofs.lemmas.List.{get_or_past, get_or-set_same, set-get_or}
use Rattle.base_core.specs.Counts.{one_more}
use Rattle.base_core.specs.declared.ids.ObjId.{ObjId}
use Rattle.base_core.specs.declared.refusal.Refusal.TheVariants.{InvalidRequestError}
use Rattle.base_core.specs.declared.refusal.RequestKind.TheVariants as requests
use Rattle.base_core.specs.declared.value.Value.{Value}
use Rattle.cascades.specs.Closures.{is_among}
use Rattle.object_arena.specs.declared.object.Object.{Object}
use Rattle.object_arena.specs.declared.object.State.{State}
use Rattle.object_arena.specs.declared.object.State.TheVariants.{Transient, Pending, Persistent, Deleted, Detached}
use Rattle.object_arena.specs.Graph.{Graph, is_persistent, no_object, object_at, place_of, root_at, with_object}
use Rattle.object_arena.specs.Identity.{IsGraph, has_key, holds_at, is_identified}
use Rattle.savepoints.specs.Scopes.{Framed}
use Rattle.object_records.specs.Touched.{differs, frames_touched_between, frames_with_touched, object_ids}
use Rattle.object_records.proofs.Exact.{object_itself}
use Rattle.session_scopes.specs.SessionState.{SessionState, with_graph}
use Rattle.session_calls.specs.Parts.{fault_if}
use Rattle.session_objects.specs.Conflicts.{conflict_fault, conflicts_in, conflicts_under, has_same_identity, is_mapped}
use Rattle.session_objects.specs.Taking.{AreOnce, added_then, is_inside, object_taken, outsiders, session_joined, session_taken, taken_under}
use Rattle.session_objects.proofs.JoiningLemmas.{clash, false_of, other_still, unheld_by}

-- ---- an object in the session stands as it stood

-- an object of no place is in no session
pub inside_made : (graph : Graph) (object : ObjId) → is_inside (object_at graph object).state ≡ true → place_of object < length graph.objects
inside_made graph object inside =
    ⊎_elim
    (λ (less : place_of object < length graph.objects). less)
    (λ (past : length graph.objects ≤ place_of object).
    clash (is_inside (object_at graph object).state) inside (ap (λ (o : Object). is_inside o.state) (get_or_past graph.objects (place_of object) no_object past)))
    (cases_lt (place_of object) (length graph.objects))

none_differ : (graph : Graph) (objects : List ObjId) → filter (differs graph graph) objects ≡ []
none_differ graph [] = refl
none_differ graph (object ∷ objects) =
    ap (λ (b : Bool). cond (not b) (object ∷ filter (differs graph graph) objects) (filter (differs graph graph) objects)) (object_itself (object_at graph object))
    ∙ none_differ graph objects

touched_nowhere : (graph : Graph) (frames : Framed) → frames_touched_between graph graph frames ≡ frames
unfolding frames_touched_between
touched_nowhere graph frames = ap (λ (objects : List ObjId). frames_with_touched graph objects frames) (none_differ graph (object_ids graph))

same_graph : (graph : Graph) (object : ObjId) → with_object graph object (object_at graph object) ≡ graph
same_graph graph object = ap (λ (objects : List Object). record { objects = objects; roots = graph.roots }) (set-get_or graph.objects (place_of object) no_object)

put_again : (session : SessionState) (object : ObjId) → with_graph (with_object session.graph object (object_at session.graph object)) session ≡ session
put_again session object =
    ap (λ (g : Graph). with_graph g session) (same_graph session.graph object)
    ∙ ap (λ (f : Framed). record session { frames = f }) (touched_nowhere session.graph session.frames)

taken_same : (state : State) (number : ℕ) (o : Object) → is_inside state ≡ true → object_taken state number o ≡ o
taken_same Pending number o inside = refl
taken_same Persistent number o inside = refl
taken_same Transient number o inside = absurd cc
taken_same Deleted number o inside = refl
taken_same Detached number o inside = absurd cc

added_same : (state : State) (added : ℕ) → is_inside state ≡ true → added_then state added ≡ added
added_same Pending added inside = refl
added_same Persistent added inside = refl
added_same Transient added inside = absurd cc
added_same Deleted added inside = refl
added_same Detached added inside = refl

stays_as_it_is : (session : SessionState) (object : ObjId) → is_inside (object_at session.graph object).state ≡ true → session_taken object session ≡ session
stays_as_it_is session object inside =
    let o : Object = object_at session.graph object in
    ap (λ (n : ℕ). with_graph (with_object session.graph object (taken_under (one_more session.added) o)) (record session { added = n })) (added_same o.state session.added inside)
    ∙ ap (λ (x : Object). with_graph (with_object session.graph object x) session) (taken_same o.state (one_more session.added) o inside)
    ∙ put_again session object

-- ---- what is in the session stays in it while others come in

-- what was in the session is in it still
abbrev pub StayInside : Graph → Graph → Type 0
StayInside old new = (object : ObjId) → is_inside (object_at old object).state ≡ true → is_inside (object_at new object).state ≡ true

inside_taken : (o : Object) (number : ℕ) → is_inside o.state ≡ true → is_inside (taken_under number o).state ≡ true
inside_taken o number inside = ap (λ (x : Object). is_inside x.state) (taken_same o.state number o inside) ∙ inside

inside_later : (graph : Graph) (object other : ObjId) (number : ℕ) → is_inside (object_at graph other).state ≡ true → is_inside (object_at (with_object graph object (taken_under number (object_at graph object))) other).state ≡ true
inside_later graph object other number inside =
    ⊎_elim
    (λ (same : place_of other ≡ place_of object).
    let o : Object = object_at graph object in
    let new : Object = taken_under number o in
    let is : object_at graph other ≡ o = ap (λ (p : ℕ). get_or graph.objects p no_object) same in
    let within : place_of other < length graph.objects = inside_made graph other inside in
    ap (λ (p : ℕ). is_inside (get_or (slice_set graph.objects (place_of object) new) p no_object).state) same
    ∙ ap (λ (x : Object). is_inside x.state) (get_or-set_same graph.objects (place_of object) new no_object (omega (arith, within, same)))
    ∙ inside_taken o number (sym (ap (λ (x : Object). is_inside x.state) is) ∙ inside))
    (λ (apart : place_of other ≢ place_of object).
    ap (λ (x : Object). is_inside x.state) (other_still graph object other (taken_under number (object_at graph object)) apart) ∙ inside)
    (cases_eq (place_of other) (place_of object))

-- only those that are not in the session come in
pub outsiders_join : (old : Graph) (objects : List ObjId) (session : SessionState) → StayInside old session.graph → session_joined (outsiders old objects) session ≡ session_joined objects session
outsiders_join old [] session stay = refl
outsiders_join old (object ∷ objects) session stay =
    by (is_inside (object_at old object).state) refl (outsiders_join old objects session stay)
    (outsiders_join old objects (session_taken object session) (λ other inside. inside_later session.graph object other (one_more session.added) (stay other inside)))
  where
    by : (b : Bool) → is_inside (object_at old object).state ≡ b → session_joined (outsiders old objects) session ≡ session_joined objects session
        → session_joined (outsiders old objects) (session_taken object session) ≡ session_joined objects (session_taken object session)
        → session_joined (cond (not b) (object ∷ outsiders old objects) (outsiders old objects)) session ≡ session_joined (object ∷ objects) session
    by true inside still taken = still ∙ ap (session_joined objects) (sym (stays_as_it_is session object (stay object inside)))
    by false outside still taken = taken

-- ---- no identity is against one that is in the session

no_key : (identity : Option (List Value)) (key : List Value) → is_some identity ≡ false → has_key key identity ≡ false
no_key None key none = refl
no_key (Some own) key none = absurd cc

-- a pending object has no identity
pending_none : (graph : Graph) (object : ObjId) → IsGraph graph.objects graph.roots → (object_at graph object).state ≡ Pending → is_some (object_at graph object).identity ≡ false
pending_none graph object is pending =
    let o : Object = object_at graph object in
    let within : place_of object < length graph.objects = inside_made graph object (ap is_inside pending) in
    turned (is_some o.identity) (sym (ap (λ (s : State). is_identified (record o { state = s })) pending) ∙ is.identified (place_of object) no_object within)
  where
    turned : (b : Bool) → not b ≡ true → b ≡ false
    turned true h = absurd cc
    turned false h = refl

away : (a b c : Bool) → c ≡ false → (a && (b && c)) ≡ false
away true true c h = h
away true false c h = refl
away false b c h = refl

-- where no persistent object has an identity, none that is in the session has it
inside_apart : (graph : Graph) (object other : ObjId) (key : List Value) (state : State) → IsGraph graph.objects graph.roots → is_mapped graph object (Some key) ≡ false → (object_at graph other).state ≡ state → not (is_inside state) ≡ false
    → has_same_identity graph object key other ≡ false
inside_apart graph object other key Pending is none at inside =
    away (not (other.0 == object.0)) ((root_at graph object).0 == (root_at graph other).0) (has_key key (object_at graph other).identity)
    (no_key (object_at graph other).identity key (pending_none graph other is at))
inside_apart graph object other key Persistent is none at inside =
    false_of (has_same_identity graph object key other)
    (λ same.
    let rest = (and_parts (not (other.0 == object.0)) ((root_at graph object).0 == (root_at graph other).0 && has_key key (object_at graph other).identity) same).1 in
    let parts = and_parts ((root_at graph object).0 == (root_at graph other).0) (has_key key (object_at graph other).identity) rest in
    let rooted : (root_at graph other).0 == (root_at graph object).0 ≡ true =
    eq-eqb (root_at graph other).0 (root_at graph object).0 (sym (eqb-true (root_at graph object).0 (root_at graph other).0 parts.0)) in
    clash (holds_at graph.objects graph.roots (root_at graph object) key (place_of other))
    (and_from (is_persistent (object_at graph other).state) ((root_at graph other).0 == (root_at graph object).0 && has_key key (object_at graph other).identity) (ap is_persistent at)
    (and_from ((root_at graph other).0 == (root_at graph object).0) (has_key key (object_at graph other).identity) rooted parts.1))
    (unheld_by graph object key is none (place_of other)))
inside_apart graph object other key Transient is none at inside = absurd cc
inside_apart graph object other key Deleted is none at inside = absurd cc
inside_apart graph object other key Detached is none at inside = absurd cc

-- a test that fails for what is left out
any_part : (p test : ObjId → Bool) (objects : List ObjId) → ((object : ObjId) → p object ≡ false → test object ≡ false) → list_any test (filter p objects) ≡ list_any test objects
any_part p test [] fails = refl
any_part p test (object ∷ objects) fails = by (p object) refl (any_part p test objects fails)
  where
    by : (b : Bool) → p object ≡ b → list_any test (filter p objects) ≡ list_any test objects → list_any test (cond b (object ∷ filter p objects) (filter p objects)) ≡ (test object || list_any test objects)
    by true is rest = ap (λ (b : Bool). test object || b) rest
    by false is rest = rest ∙ ap (λ (b : Bool). b || list_any test objects) (sym (fails object is))

abbrev is_outside : Graph → ObjId → Bool
is_outside graph object = not (is_inside (object_at graph object).state)

same_under : (graph : Graph) (objects : List ObjId) (object : ObjId) (identity : Option (List Value)) → IsGraph graph.objects graph.roots → conflicts_under graph (outsiders graph objects) object identity ≡ conflicts_under graph objects object identity
same_under graph objects object None is = refl
same_under graph objects object (Some key) is = by (is_mapped graph object (Some key)) refl
  where
    by : (b : Bool) → is_mapped graph object (Some key) ≡ b → (b || list_any (has_same_identity graph object key) (outsiders graph objects)) ≡ (b || list_any (has_same_identity graph object key) objects)
    by true mapped = refl
    by false none =
        any_part (is_outside graph) (has_same_identity graph object key) objects
        (λ other inside. inside_apart graph object other key (object_at graph other).state is none refl inside)

same_in : (state : State) (graph : Graph) (objects : List ObjId) (object : ObjId) → IsGraph graph.objects graph.roots → conflicts_in state graph (outsiders graph objects) object ≡ conflicts_in state graph objects object
same_in Detached graph objects object is = same_under graph objects object (object_at graph object).identity is
same_in Transient graph objects object is = refl
same_in Pending graph objects object is = refl
same_in Persistent graph objects object is = refl
same_in Deleted graph objects object is = refl

inside_fails : (state : State) (graph : Graph) (objects : List ObjId) (object : ObjId) → not (is_inside state) ≡ false → conflicts_in state graph objects object ≡ false
inside_fails Pending graph objects object inside = refl
inside_fails Persistent graph objects object inside = refl
inside_fails Transient graph objects object inside = absurd cc
inside_fails Deleted graph objects object inside = absurd cc
inside_fails Detached graph objects object inside = absurd cc

any_alike : (one other : ObjId → Bool) (objects : List ObjId) → ((object : ObjId) → one object ≡ other object) → list_any one objects ≡ list_any other objects
any_alike one other [] alike = refl
any_alike one other (object ∷ objects) alike = ap (λ (b : Bool). b || list_any one objects) (alike object) ∙ ap (λ (b : Bool). other object || b) (any_alike one other objects alike)

-- what is against those that are not in the session is against all
pub outsiders_conflict : (graph : Graph) (objects : List ObjId) → IsGraph graph.objects graph.roots → conflict_fault graph (outsiders graph objects) ≡ conflict_fault graph objects
outsiders_conflict graph objects is =
    let test : List ObjId → ObjId → Bool = λ all object. conflicts_in (object_at graph object).state graph all object in
    ap (λ (b : Bool). fault_if b (InvalidRequestError requests.IdentityConflict))
    (any_alike (test (outsiders graph objects)) (test objects) (outsiders graph objects) (λ object. same_in (object_at graph object).state graph objects object is)
    ∙ any_part (is_outside graph) (test objects) objects (λ object inside. inside_fails (object_at graph object).state graph objects object inside))

-- ---- those that are not in the session are told once

not_among : (p : ObjId → Bool) (object : ObjId) (objects : List ObjId) → is_among objects object ≡ false → is_among (filter p objects) object ≡ false
not_among p object [] none = refl
not_among p object (other ∷ objects) none = by (p other) (object.0 == other.0) refl none (not_among p object objects)
  where
    by : (b same : Bool) → (object.0 == other.0) ≡ same → (same || is_among objects object) ≡ false → (is_among objects object ≡ false → is_among (filter p objects) object ≡ false)
        → is_among (cond b (other ∷ filter p objects) (filter p objects)) object ≡ false
    by b true is h rest = absurd cc
    by true false is h rest = ap (λ (c : Bool). c || is_among (filter p objects) object) is ∙ rest h
    by false false is h rest = rest h

pub outsiders_once : (graph : Graph) (p : ObjId → Bool) (objects : List ObjId) → AreOnce graph objects → AreOnce graph (filter p objects)
outsiders_once graph p [] once = tt
outsiders_once graph p (object ∷ objects) once = by (p object) (outsiders_once graph p objects once.2)
  where
    by : (b : Bool) → AreOnce graph (filter p objects) → AreOnce graph (cond b (object ∷ filter p objects) (filter p objects))
    by true rest = (once.0, not_among p object objects once.1, rest)
    by false rest = rest
