-- What becomes of the graph where an object is made, made persistent under a key, and expired.
use Rattle.std.proofs.Common.{◌≡◌, ℕ, ◌+◌, ◌-◌, Bool, true, false, cond, List, [], ◌∷◌, ◌++◌, map, length, get_or, Option, Some, None, refl, sym, ap, ◌∙◌, arith, append-nil, length-append, subst, ◌<◌, Result, Ok, Err, if◌then◌else◌}
use Rattle.std.specs.Prelude.{nat_lt, slice_set}
use Rattle.std.specs.Option.{option_map}
use Rattle.std.specs.List.{position, position_or_len, zip}
use Rattle.std.proofs.Math.Seq.{set-append_seam}
use Rattle.std.proofs.lemmas.List.{get_or_push, map-append}
use Rattle.std.proofs.lemmas.Bool.{lt-ltb}
use Rattle.std.proofs.lemmas.Bool.Decides.{nat_tests}
use Rattle.std.proofs.lemmas.List.Folds.{position_or_len_push}
use Rattle.base_core.specs.declared.ids.ClassId.{ClassId}
use Rattle.base_core.specs.declared.ids.ObjId.{ObjId}
use Rattle.base_core.specs.declared.refusal.LimitKind.TheVariants.{Objects}
use Rattle.base_core.specs.declared.refusal.Refusal.{Refusal}
use Rattle.base_core.specs.declared.refusal.Refusal.TheVariants.{LimitReached}
use Rattle.base_core.specs.declared.value.Value.{Value}
use Rattle.class_types.specs.declared.mapped.Attribute.{Attribute}
use Rattle.class_mapping.specs.Mapped.{Mapped, attributes_of, relations_of, root_of}
use Rattle.object_arena.specs.declared.object.Object.{Object}
use Rattle.object_arena.specs.declared.object.Cell.{Cell}
use Rattle.object_arena.specs.declared.object.Link.{Link}
use Rattle.object_arena.specs.declared.object.Link.TheVariants.{Unloaded, Unset}
use Rattle.object_arena.specs.declared.object.State.TheVariants.{Persistent}
use Rattle.object_arena.specs.Every.{classes_of}
use Rattle.object_arena.specs.Graph.{Graph, expired_cell, expired_object, fresh_object, make, no_class_id, no_object, null_cell, object_at, object_limit, root_at, with_fresh, with_object}
use Rattle.object_arena.specs.Identity.{find_identity, holds, id_of_place, is_other, is_taken, with_identity}
use Rattle.load_filling.specs.Growing.{Grows}
use Rattle.load_filling.specs.Loaded.{load, loaded_object, with_loaded}

-- ---- a fresh object takes no key

zip_more : {A B : Type 0} (xs : List A) (ys : List B) (x : A) (y : B) → length ys ≡ length xs → zip (xs ++ x ∷ []) (ys ++ y ∷ []) ≡ zip xs ys ++ (x, y) ∷ []
zip_more [] [] x y h = refl
zip_more [] (b ∷ ys) x y h = absurd (omega (arith, h))
zip_more (a ∷ xs) [] x y h = absurd (omega (arith, h))
zip_more {A = A} {B = B} (a ∷ xs) (b ∷ ys) x y h =
    let same : length ys ≡ length xs = omega (arith, h) in
    ap (λ (more : List (A × B)). (a, b) ∷ more) (zip_more xs ys x y same)

place_unkept : {A : Type 0} (p : A → Bool) (xs : List A) (y : A) → nat_lt (position_or_len p xs) (length xs) ≡ false → p y ≡ false → nat_lt (position_or_len p (xs ++ y ∷ [])) (length (xs ++ y ∷ [])) ≡ false
place_unkept {A = A} p xs y h fails = grind (arith, nat_tests, position_or_len_push, length-append {A = A})

never_found : (b : Bool) (n : ℕ) → cond b (Some n) None ≡ None → b ≡ false
never_found true n e = absurd cc
never_found false n e = refl

none_by : {A : Type 0} (p : A → Bool) (xs : List A) (y : A) → position p xs ≡ None → p y ≡ false → position p (xs ++ y ∷ []) ≡ None
none_by p xs y none fails =
    ap (λ (b : Bool). cond b (Some (position_or_len p (xs ++ y ∷ []))) None)
    (place_unkept p xs y (never_found (nat_lt (position_or_len p xs) (length xs)) (position_or_len p xs) none) fails)

unfound : (o : Option ℕ) → option_map id_of_place o ≡ None → o ≡ None
unfound None e = refl
unfound (Some n) e = absurd cc

-- the object that a make makes has the number behind the others
abbrev pub next_object : Graph → ObjId
next_object graph = record { 0 = length graph.objects + 1 }

last_place : (n : ℕ) → n + 1 - 1 ≡ n
last_place n = omega arith

-- where no persistent object has a key, none has it beside one that is just made
pub fresh_free : (mapped : Mapped) (class : ClassId) (key : List Value) (graph : Graph) → length graph.roots ≡ length graph.objects → find_identity graph (root_of mapped class) key ≡ None
    → is_taken (with_fresh graph mapped class) (next_object graph) key ≡ false
fresh_free mapped class key graph rooted free =
    let root : ClassId = root_of mapped class in
    let fresh : Object = fresh_object mapped class in
    let test : Object × ClassId → Bool = holds root key in
    let none : position test (zip graph.objects graph.roots) ≡ None = unfound (position test (zip graph.objects graph.roots)) free in
    let end : ClassId = root_at (with_fresh graph mapped class) (next_object graph) in
    let place : length graph.roots ≡ length graph.objects + 1 - 1 = rooted ∙ sym (last_place (length graph.objects)) in
    let own : end ≡ root = get_or_push graph.roots root no_class_id (length graph.objects + 1 - 1) place in
    ap (λ (under : ClassId). is_other (next_object graph) (find_identity (with_fresh graph mapped class) under key)) own
    ∙ ap (λ (all : List (Object × ClassId)). is_other (next_object graph) (option_map id_of_place (position test all))) (zip_more graph.objects graph.roots fresh root rooted)
    ∙ ap (λ (found : Option ℕ). is_other (next_object graph) (option_map id_of_place found))
    (none_by test (zip graph.objects graph.roots) (fresh, root) none refl)

-- ---- what it is then

all_expired : (attributes : List Attribute) → map (λ (cell : Cell). expired_cell) (map (λ (attribute : Attribute). null_cell) attributes) ≡ map (λ attribute. expired_cell) attributes
all_expired [] = refl
all_expired (attribute ∷ attributes) = ap (λ (cells : List Cell). expired_cell ∷ cells) (all_expired attributes)

all_unloaded : {A : Type 0} (relations : List A) → (let unset : Link = Unset in map (λ (link : Link). Unloaded [] []) (map (λ (relation : A). unset) relations) ≡ map (λ relation. Unloaded [] []) relations)
all_unloaded [] = refl
all_unloaded (relation ∷ relations) = ap (λ (links : List Link). Unloaded [] [] ∷ links) (all_unloaded relations)

-- the fresh object, persistent under the key
abbrev kept_object : Mapped → ClassId → List Value → Object
kept_object mapped class key = record (fresh_object mapped class) { state = Persistent; identity = Some key }

expired_is : (mapped : Mapped) (class : ClassId) (key : List Value) → expired_object (kept_object mapped class key) ≡ loaded_object mapped class key
expired_is mapped class key =
    ap (λ (cells : List Cell). record (loaded_object mapped class key) { cells = cells; links = map (λ (link : Link). Unloaded [] []) (map (λ relation. Unset) (relations_of mapped class)) }) (all_expired (attributes_of mapped class))
    ∙ ap (λ (links : List Link). record (loaded_object mapped class key) { links = links }) (all_unloaded (relations_of mapped class))

set_last : (objects : List Object) (old new : Object) → slice_set (objects ++ old ∷ []) (length objects + 1 - 1) new ≡ objects ++ new ∷ []
set_last objects old new = ap (λ (n : ℕ). slice_set (objects ++ old ∷ []) n new) (last_place (length objects)) ∙ set-append_seam objects old [] new

at_last : (objects : List Object) (last : Object) → get_or (objects ++ last ∷ []) (length objects + 1 - 1) no_object ≡ last
at_last objects last = get_or_push objects last no_object (length objects + 1 - 1) (sym (last_place (length objects)))

-- the graph where an object was made and made persistent under a key
settled_is : (mapped : Mapped) (class : ClassId) (key : List Value) (graph : Graph)
    → with_identity (with_fresh graph mapped class) (next_object graph) key ≡ record { objects = graph.objects ++ kept_object mapped class key ∷ []; roots = graph.roots ++ root_of mapped class ∷ [] }
settled_is mapped class key graph =
    let fresh : Object = fresh_object mapped class in
    ap (λ (last : Object). with_object (with_fresh graph mapped class) (next_object graph) (record last { state = Persistent; identity = Some key })) (at_last graph.objects fresh)
    ∙ ap (λ (objects : List Object). let new : Graph = record { objects = objects; roots = graph.roots ++ root_of mapped class ∷ [] } in new) (set_last graph.objects fresh (kept_object mapped class key))

expired_last : (mapped : Mapped) (class : ClassId) (key : List Value) (graph middle : Graph) → middle ≡ record { objects = graph.objects ++ kept_object mapped class key ∷ []; roots = graph.roots ++ root_of mapped class ∷ [] }
    → with_object middle (next_object graph) (expired_object (object_at middle (next_object graph))) ≡ with_loaded mapped class key graph
expired_last mapped class key graph middle is =
    let kept : Object = kept_object mapped class key in
    let roots : List ClassId = graph.roots ++ root_of mapped class ∷ [] in
    let settled : Graph = record { objects = graph.objects ++ kept ∷ []; roots = roots } in
    ap (λ (now : Graph). with_object now (next_object graph) (expired_object (object_at now (next_object graph)))) is
    ∙ ap (λ (last : Object). with_object settled (next_object graph) (expired_object last)) (at_last graph.objects kept)
    ∙ ap (λ (last : Object). with_object settled (next_object graph) last) (expired_is mapped class key)
    ∙ ap (λ (objects : List Object). let new : Graph = record { objects = objects; roots = roots } in new) (set_last graph.objects kept (loaded_object mapped class key))

-- the graph where it is expired then
pub loaded_is : (mapped : Mapped) (class : ClassId) (key : List Value) (graph middle : Graph) → middle ≡ with_identity (with_fresh graph mapped class) (next_object graph) key
    → with_object middle (next_object graph) (expired_object (object_at middle (next_object graph))) ≡ with_loaded mapped class key graph
loaded_is mapped class key graph middle is = expired_last mapped class key graph middle (is ∙ settled_is mapped class key graph)

-- it is persistent before
pub settled_state : (mapped : Mapped) (class : ClassId) (key : List Value) (graph middle : Graph) → middle ≡ with_identity (with_fresh graph mapped class) (next_object graph) key
    → (object_at middle (next_object graph)).state ≡ Persistent
settled_state mapped class key graph middle is =
    ap (λ (now : Graph). (object_at now (next_object graph)).state) (is ∙ settled_is mapped class key graph)
    ∙ ap (λ (last : Object). last.state) (at_last graph.objects (kept_object mapped class key))

-- ---- the answers

ok_same : {A : Type 0} (x y : A) → (let one : Result A Refusal = Ok x in one ≡ Ok y) → x ≡ y
ok_same x y e = cc

made_by : (b : Bool) (graph fresh new : Graph) (object : ObjId) → (let answer : Result (ObjId × Graph) Refusal = if b then Ok (next_object graph, fresh) else Err (LimitReached Objects) in answer ≡ Ok (object, new)) → object ≡ next_object graph
made_by true graph fresh new object e = ap (λ (p : ObjId × Graph). p.0) (sym (ok_same (next_object graph, fresh) (object, new) e))
made_by false graph fresh new object e = absurd cc

-- what was made is the next object
pub made_object : (mapped : Mapped) (class : ClassId) (graph new : Graph) (object : ObjId) → make graph mapped class ≡ Ok (object, new) → object ≡ next_object graph
unfolding make
made_object mapped class graph new object e = made_by (nat_lt (length graph.objects) object_limit) graph (with_fresh graph mapped class) new object e

-- it takes no key
pub made_free : (mapped : Mapped) (class : ClassId) (key : List Value) (graph new : Graph) (object : ObjId) → length graph.roots ≡ length graph.objects → find_identity graph (root_of mapped class) key ≡ None
    → make graph mapped class ≡ Ok (object, new) → new ≡ with_fresh graph mapped class → is_taken new object key ≡ false
made_free mapped class key graph new object rooted free e is =
    ap (λ (now : Graph). is_taken now object key) is
    ∙ ap (λ (one : ObjId). is_taken (with_fresh graph mapped class) one key) (made_object mapped class graph new object e)
    ∙ fresh_free mapped class key graph rooted free

-- it is persistent under the key, and expired, then
pub made_loaded : (mapped : Mapped) (class : ClassId) (key : List Value) (graph fresh middle new : Graph) (object : ObjId) → make graph mapped class ≡ Ok (object, fresh) → fresh ≡ with_fresh graph mapped class
    → middle ≡ with_identity fresh object key → new ≡ with_object middle object (expired_object (object_at middle object)) → new ≡ with_loaded mapped class key graph
made_loaded mapped class key graph fresh middle new object e is settled expired =
    let same = made_object mapped class graph fresh object e in
    let from : middle ≡ with_identity (with_fresh graph mapped class) (next_object graph) key =
    settled ∙ ap (λ (now : Graph). with_identity now object key) is ∙ ap (λ (one : ObjId). with_identity (with_fresh graph mapped class) one key) same in
    expired ∙ ap (λ (one : ObjId). with_object middle one (expired_object (object_at middle one))) same ∙ loaded_is mapped class key graph middle from

-- the step that was taken
pub load_is : (mapped : Mapped) (class : ClassId) (key : List Value) (graph fresh new : Graph) (object : ObjId) → length graph.objects < object_limit → make graph mapped class ≡ Ok (object, fresh)
    → new ≡ with_loaded mapped class key graph → load mapped class key graph ≡ Ok (object, new)
unfolding load
load_is mapped class key graph fresh new object room e is =
    let whole : Graph = with_loaded mapped class key graph in
    ap (λ (b : Bool). let answer : Result (ObjId × Graph) Refusal = if b then Ok (next_object graph, whole) else Err (LimitReached Objects) in answer) (lt-ltb (length graph.objects) object_limit room)
    ∙ ap (λ (one : ObjId). let answer : Result (ObjId × Graph) Refusal = Ok (one, whole) in answer) (sym (made_object mapped class graph fresh object e))
    ∙ ap (λ (now : Graph). let answer : Result (ObjId × Graph) Refusal = Ok (object, now) in answer) (sym is)

-- ---- the objects that there were

pub grows_same : (old new : Graph) → new ≡ old → Grows old new
grows_same old new is = subst (Grows old) (sym is) (record { classes = []; roots = []; longer = sym (append-nil (classes_of old).0); rooted = sym (append-nil (classes_of old).1) })

loaded_grows : (mapped : Mapped) (class : ClassId) (key : List Value) (graph : Graph) → Grows graph (with_loaded mapped class key graph)
unfolding classes_of
loaded_grows mapped class key graph = record {
  classes = class ∷ [];
  roots = root_of mapped class ∷ [];
  longer = map-append (λ (o : Object). o.class) graph.objects (loaded_object mapped class key ∷ []);
  rooted = refl;
}

pub grows_loaded : (mapped : Mapped) (class : ClassId) (key : List Value) (old new : Graph) → new ≡ with_loaded mapped class key old → Grows old new
grows_loaded mapped class key old new is = subst (Grows old) (sym is) (loaded_grows mapped class key old)

-- the object that was made is of its class's root
pub loaded_rooted : (mapped : Mapped) (class : ClassId) (key : List Value) (graph fresh new : Graph) (object : ObjId) → length graph.roots ≡ length graph.objects → make graph mapped class ≡ Ok (object, fresh)
    → new ≡ with_loaded mapped class key graph → (root_at new object).0 ≡ (root_of mapped class).0
loaded_rooted mapped class key graph fresh new object rooted e is =
    let place : length graph.roots ≡ length graph.objects + 1 - 1 = rooted ∙ sym (last_place (length graph.objects)) in
    ap (λ (now : Graph). (root_at now object).0) is
    ∙ ap (λ (one : ObjId). (root_at (with_loaded mapped class key graph) one).0) (made_object mapped class graph fresh object e)
    ∙ ap (λ (root : ClassId). root.0) (get_or_push graph.roots (root_of mapped class) no_class_id (length graph.objects + 1 - 1) place)
