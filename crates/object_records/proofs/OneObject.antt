-- Where one object gets another record, it alone differs.
use Rattle.std.proofs.Common.{◌≡◌, ◌≢◌, ℕ, ◌+◌, ◌<◌, ◌≤◌, Bool, true, false, not, cond, List, [], ◌∷◌, length, map, Result, Ok, Err, OnOk, ◌⊎◌, inl, inr, refl, sym, ap, ◌∙◌, arith}
use Rattle.std.proofs.lemmas.Bool.{cases_eq}
use Rattle.std.proofs.lemmas.List.{get_or-set_same, get_or-set_other}
use Rattle.std.specs.List.{enumerate_from, filter}
use Rattle.base_core.specs.declared.ids.ObjId.{ObjId}
use Rattle.object_arena.specs.declared.object.Object.{Object}
use Rattle.object_arena.specs.Graph.{Graph, IsObject, no_object, object_at, place_of, with_object}
use Rattle.object_arena.specs.Identity.{id_of_place}
use Rattle.savepoints.specs.Scopes.{Framed, touch}
use Rattle.object_records.specs.Same.{same_object}
use Rattle.object_records.specs.Touched.{frames_with_touched, changed_objects, differs, frames_touched_between}
use Rattle.object_records.proofs.Exact.{object_itself}

-- the numbers of the objects from a place on
abbrev ids_from : ℕ → List Object → List ObjId
ids_from n objects = map (λ placed. id_of_place placed.0) (enumerate_from n objects)

-- a test that fails at each place leaves nothing
none_from : (test : ObjId → Bool) (n : ℕ) (objects : List Object) → ((k : ℕ) → n ≤ k → test (id_of_place k) ≡ false) → filter test (ids_from n objects) ≡ []
none_from test n [] fails = refl
none_from test n (o ∷ objects) fails =
    ap (λ b. cond b (id_of_place n ∷ filter test (ids_from (n + 1) objects)) (filter test (ids_from (n + 1) objects))) (fails n (omega arith))
    ∙ none_from test (n + 1) objects (λ k h. fails k (omega (arith, h)))

-- the first place is the one, or the test fails there
one_more : (test : ObjId → Bool) (n : ℕ) (objects : List Object) (place : ℕ) → ((k : ℕ) → k ≢ place → test (id_of_place k) ≡ false)
    → (n ≢ place → filter test (ids_from (n + 1) objects) ≡ cond (test (id_of_place place)) (id_of_place place ∷ []) []) → (n ≡ place) ⊎ (n ≢ place)
    → cond (test (id_of_place n)) (id_of_place n ∷ filter test (ids_from (n + 1) objects)) (filter test (ids_from (n + 1) objects)) ≡ cond (test (id_of_place place)) (id_of_place place ∷ []) []
one_more test n objects place fails later (inl same) =
    ap (λ (ids : List ObjId). cond (test (id_of_place n)) (id_of_place n ∷ ids) ids) (none_from test (n + 1) objects (λ k h. fails k (λ e. omega (arith, h, same, e))))
    ∙ ap (λ (m : ℕ). cond (test (id_of_place m)) (id_of_place m ∷ []) []) same
one_more test n objects place fails later (inr other) =
    ap (λ b. cond b (id_of_place n ∷ filter test (ids_from (n + 1) objects)) (filter test (ids_from (n + 1) objects))) (fails n other) ∙ later other

-- a test that fails at each place but one leaves that one, if anything
one_from : (test : ObjId → Bool) (n : ℕ) (objects : List Object) (place : ℕ) → n ≤ place → place < n + length objects → ((k : ℕ) → k ≢ place → test (id_of_place k) ≡ false)
    → filter test (ids_from n objects) ≡ cond (test (id_of_place place)) (id_of_place place ∷ []) []
one_from test n [] place low high fails = absurd (omega (arith, low, high))
one_from test n (o ∷ objects) place low high fails =
    one_more test n objects place fails (λ other. one_from test (n + 1) objects place (omega (arith, low, other)) (omega (arith, high)) fails) (cases_eq n place)

-- ---- an object of a graph

id_back : (graph : Graph) (object : ObjId) → IsObject graph object → id_of_place (place_of object) ≡ object
id_back graph object made = ap (λ (n : ℕ). record { 0 = n }) (omega (arith, made.0))

-- every other object is as it was
others : (graph : Graph) (object : ObjId) (new : Object) (k : ℕ) → k ≢ place_of object → differs graph (with_object graph object new) (id_of_place k) ≡ false
others graph object new k other =
    let id = id_of_place k in
    let place : place_of id ≡ k = omega arith in
    ap (λ (it : Object). not (same_object (object_at graph id) it)) (get_or-set_other graph.objects (place_of object) (place_of id) new no_object (λ e. other (sym place ∙ e)))
    ∙ ap not (object_itself (object_at graph id))

-- the object has the other record
own : (graph : Graph) (object : ObjId) (new : Object) → IsObject graph object → differs graph (with_object graph object new) object ≡ not (same_object (object_at graph object) new)
own graph object new made =
    ap (λ (it : Object). not (same_object (object_at graph object) it)) (get_or-set_same graph.objects (place_of object) new no_object (omega (arith, made.0, made.1)))

changed_one : (graph : Graph) (object : ObjId) (new : Object) → IsObject graph object
    → changed_objects graph (with_object graph object new) ≡ cond (not (same_object (object_at graph object) new)) (object ∷ []) []
changed_one graph object new made =
    one_from (differs graph (with_object graph object new)) 0 graph.objects (place_of object) (omega arith) (omega (arith, made.0, made.1)) (others graph object new)
    ∙ ap (λ (id : ObjId). cond (differs graph (with_object graph object new) id) (id ∷ []) []) (id_back graph object made)
    ∙ ap (λ b. cond b (object ∷ []) []) (own graph object new made)

touched_one : (graph : Graph) (object : ObjId) (new : Object) (frames : Framed) (b : Bool) → IsObject graph object → b ≡ not (same_object (object_at graph object) new)
    → frames_touched_between graph (with_object graph object new) frames ≡ cond b (touch graph object frames) frames
unfolding frames_touched_between
touched_one graph object new frames b made is =
    ap (λ (ids : List ObjId). frames_with_touched graph ids frames) (changed_one graph object new made ∙ ap (λ c. cond c (object ∷ []) []) (sym is))
    ∙ elim b as (λ (c : Bool). frames_with_touched graph (cond c (object ∷ []) []) frames ≡ cond c (touch graph object frames) frames) [ true ↦ refl | false ↦ refl ]

-- the object is touched, since its record is to differ
pub touches : {E : Type 0} (graph : Graph) (object : ObjId) (new : Object) (old now : Framed) (r : Result (Unit {0}) E) → IsObject graph object → true ≡ not (same_object (object_at graph object) new)
    → OnOk r (now ≡ touch graph object old) → OnOk r (now ≡ frames_touched_between graph (with_object graph object new) old)
touches graph object new old now (Ok u) made is touched = touched ∙ sym (touched_one graph object new old true made is)
touches graph object new old now (Err e) made is touched = tt

-- the scopes stay, since the record is not to differ
pub stays : (graph : Graph) (object : ObjId) (new : Object) (frames : Framed) → IsObject graph object → false ≡ not (same_object (object_at graph object) new)
    → frames ≡ frames_touched_between graph (with_object graph object new) frames
stays graph object new frames made is = sym (touched_one graph object new frames false made is)

pub ruleset changes = (touches, stays)
