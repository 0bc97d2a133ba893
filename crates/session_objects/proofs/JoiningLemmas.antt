-- Objects that may come in: each still may when it is its turn.
use Rattle.std.proofs.Common.{◌≡◌, ◌≢◌, ℕ, ◌+◌, ◌<◌, ◌≤◌, Bool, true, false, ◌&&◌, ◌||◌, List, [], ◌∷◌, length, get_or, drop, Option, None, Some, refl, sym, ap, ◌∙◌, subst, ⊎_elim, arith}
use Rattle.std.specs.Prelude.{not, ◌==◌, is_some}
use Rattle.std.specs.Option.{option_map}
use Rattle.std.specs.List.{list_any, position, zip}
use Rattle.std.proofs.lemmas.Bool.{and_from, and_parts, cases_eq, eq-eqb, eqb-true, or_left, or_right}
use Rattle.std.proofs.lemmas.List.{drop_all, drop_more, get_or-set_other, length-set}
use Rattle.base_core.specs.Counts.{one_more}
use Rattle.base_core.specs.declared.ids.ClassId.{ClassId}
use Rattle.base_core.specs.declared.ids.ObjId.{ObjId}
use Rattle.base_core.specs.declared.value.Value.{Value}
use Rattle.cascades.specs.Closures.{is_among}
use Rattle.object_arena.specs.declared.object.Object.{Object}
use Rattle.object_arena.specs.declared.object.State.{State}
use Rattle.object_arena.specs.declared.object.State.TheVariants.{Transient, Pending, Persistent, Deleted, Detached}
use Rattle.object_arena.specs.Graph.{Graph, IsObject, expired_object, is_persistent, no_class_id, no_object, object_at, place_of, root_at, with_object}
use Rattle.object_arena.specs.Identity.{IsFree, IsGraph, has_key, holds, holds_at, id_of_place, is_other}
use Rattle.object_arena.proofs.GraphLemmas.{at_other, at_same, held_position}
use Rattle.object_arena.proofs.HolderLemmas.{place_holds}
use Rattle.session_scopes.specs.SessionState.{SessionState}
use Rattle.session_objects.specs.Conflicts.{conflicts_in, conflicts_under, has_conflict, has_same_identity, is_mapped}
use Rattle.session_objects.specs.Taking.{AreMade, AreOnce, IsApart, IsUnheld, MayComeIn, MayJoin, MayReturn, changed_values, object_taken, returned_object, session_joined, session_taken, taken_under}
use Rattle.session_objects.proofs.TakingLemmas.{identity_left}

-- ---- tests

pub clash : {P : Type 0} (b : Bool) → b ≡ true → b ≡ false → P
clash b yes_ no_ = absurd (let e : true ≡ false = sym yes_ ∙ no_ in cc)

or_false : (a b : Bool) → (a || b) ≡ false → (a ≡ false) × (b ≡ false)
or_false true b h = absurd cc
or_false false b h = (refl, h)

pub false_of : (b : Bool) → (b ≡ true → ⊥) → b ≡ false
false_of true h = absurd (h refl)
false_of false h = refl

abbrev numbered : ℕ → ObjId
numbered n = record { 0 = n }

-- a test that no object of a list passes
none_passes : (p : ObjId → Bool) (objects : List ObjId) (object : ObjId) → list_any p objects ≡ false → is_among objects object ≡ true → p object ≡ false
none_passes p [] object none among = absurd cc
none_passes p (other ∷ objects) object none among =
    let parts = or_false (p other) (list_any p objects) none in
    by (object.0 == other.0) refl among parts.0 (λ later. none_passes p objects object parts.1 later)
  where
    by : (same : Bool) → (object.0 == other.0) ≡ same → (same || is_among objects object) ≡ true → p other ≡ false → (is_among objects object ≡ true → p object ≡ false) → p object ≡ false
    by true same h fails rest = subst (λ (n : ℕ). p (numbered n) ≡ false) (sym (eqb-true object.0 other.0 same)) fails
    by false same h fails rest = rest h

-- ---- the identity of an object that comes back is free

none_mapped : (found : Option ℕ) → is_some (option_map id_of_place found) ≡ false → found ≡ None
none_mapped None h = refl
none_mapped (Some place) h = absurd cc

-- where none is found none holds
pub unheld_by : (graph : Graph) (object : ObjId) (key : List Value) → IsGraph graph.objects graph.roots → is_mapped graph object (Some key) ≡ false → (place : ℕ) → holds_at graph.objects graph.roots (root_at graph object) key place ≡ false
unheld_by graph object key is none place =
    false_of (holds_at graph.objects graph.roots (root_at graph object) key place)
    (λ held.
    absurd (held_position graph.objects graph.roots (root_at graph object) key place is.rooted held
    (none_mapped (position (holds (root_at graph object) key) (zip graph.objects graph.roots)) none)))

none_taken : (objects : List Object) (roots : List ClassId) (object : ObjId) (root : ClassId) (key : List Value) (found : Option ℕ) → length roots ≡ length objects → position (holds root key) (zip objects roots) ≡ found
    → ((place : ℕ) → holds_at objects roots root key place ≡ false) → is_other object (option_map id_of_place found) ≡ false
none_taken objects roots object root key None rooted at none = refl
none_taken objects roots object root key (Some place) rooted at none = clash (holds_at objects roots root key place) (place_holds objects roots root key place rooted at).1 (none place)

free_by : (graph : Graph) (object : ObjId) (identity : Option (List Value)) → length graph.roots ≡ length graph.objects
    → ((key : List Value) → identity ≡ Some key → (place : ℕ) → holds_at graph.objects graph.roots (root_at graph object) key place ≡ false) → IsFree graph object identity
free_by graph object None rooted none = tt
free_by graph object (Some key) rooted none =
    none_taken graph.objects graph.roots object (root_at graph object) key (position (holds (root_at graph object) key) (zip graph.objects graph.roots)) rooted refl (none key refl)

may_return : (graph : Graph) (object : ObjId) → length graph.roots ≡ length graph.objects → IsUnheld graph object → MayReturn graph object
may_return graph object rooted none detached = free_by graph object (object_at graph object).identity rooted (none detached)

-- ---- where nothing is against objects, they may come in one after another

pub once_made : (graph : Graph) (objects : List ObjId) → AreOnce graph objects → AreMade graph objects
once_made graph [] once = tt
once_made graph (object ∷ objects) once = (once.0, once_made graph objects once.2)

unheld_of : (graph : Graph) (whole : List ObjId) (object : ObjId) → IsGraph graph.objects graph.roots → conflicts_in (object_at graph object).state graph whole object ≡ false → IsUnheld graph object
unheld_of graph whole object is none detached key has =
    let under : conflicts_under graph whole object (object_at graph object).identity ≡ false = sym (ap (λ (s : State). conflicts_in s graph whole object) detached) ∙ none in
    let both : conflicts_under graph whole object (Some key) ≡ false = sym (ap (conflicts_under graph whole object) has) ∙ under in
    unheld_by graph object key is (or_false (is_mapped graph object (Some key)) (list_any (has_same_identity graph object key) whole) both).0

apart_of : (graph : Graph) (whole : List ObjId) (object other : ObjId) → is_among whole object ≡ true → (other.0 == object.0) ≡ false → conflicts_in (object_at graph other).state graph whole other ≡ false
    → (object_at graph other).state ≡ Detached → (key : List Value) → (object_at graph other).identity ≡ Some key → (root_at graph object).0 ≡ (root_at graph other).0 → has_key key (object_at graph object).identity ≡ false
apart_of graph whole object other among differs none detached key has root =
    let under : conflicts_under graph whole other (object_at graph other).identity ≡ false = sym (ap (λ (s : State). conflicts_in s graph whole other) detached) ∙ none in
    let both : conflicts_under graph whole other (Some key) ≡ false = sym (ap (conflicts_under graph whole other) has) ∙ under in
    let same : has_same_identity graph other key object ≡ false = none_passes (has_same_identity graph other key) whole object (or_false (is_mapped graph other (Some key)) (list_any (has_same_identity graph other key) whole) both).1 among in
    false_of (has_key key (object_at graph object).identity)
    (λ has_it.
    let apart : not (object.0 == other.0) ≡ true = ap not (turned (object.0 == other.0) refl) in
    let rooted : (root_at graph other).0 == (root_at graph object).0 ≡ true = eq-eqb (root_at graph other).0 (root_at graph object).0 (sym root) in
    clash (has_same_identity graph other key object)
    (and_from (not (object.0 == other.0)) ((root_at graph other).0 == (root_at graph object).0 && has_key key (object_at graph object).identity) apart
    (and_from ((root_at graph other).0 == (root_at graph object).0) (has_key key (object_at graph object).identity) rooted has_it)) same)
  where
    turned : (b : Bool) → (object.0 == other.0) ≡ b → (object.0 == other.0) ≡ false
    turned true same = clash (other.0 == object.0) (eq-eqb other.0 object.0 (sym (eqb-true object.0 other.0 same))) differs
    turned false same = same

apart_from : (graph : Graph) (whole : List ObjId) (object : ObjId) (others : List ObjId) → is_among whole object ≡ true → IsObject graph object → AreMade graph others → is_among others object ≡ false
    → list_any (λ (o : ObjId). conflicts_in (object_at graph o).state graph whole o) others ≡ false → IsApart graph object others
apart_from graph whole object [] among own made once none = tt
apart_from graph whole object (other ∷ others) among own made once none =
    let parts = or_false (conflicts_in (object_at graph other).state graph whole other) (list_any (λ (o : ObjId). conflicts_in (object_at graph o).state graph whole o) others) none in
    let apart = or_false (object.0 == other.0) (is_among others object) once in (
      (λ same. clash (object.0 == other.0) (eq-eqb object.0 other.0 (let e : place_of other ≡ place_of object = same in omega (arith, e, own.0, made.0.0))) apart.0),
      apart_of graph whole object other among (turned (other.0 == object.0) refl apart.0) parts.0,
      apart_from graph whole object others among own made.1 apart.1 parts.1,
    )
  where
    turned : (b : Bool) → (other.0 == object.0) ≡ b → (object.0 == other.0) ≡ false → (other.0 == object.0) ≡ false
    turned true same differs = clash (object.0 == other.0) (eq-eqb object.0 other.0 (sym (eqb-true other.0 object.0 same))) differs
    turned false same differs = same

come_in_of : (graph : Graph) (whole objects : List ObjId) → IsGraph graph.objects graph.roots → ((object : ObjId) → is_among objects object ≡ true → is_among whole object ≡ true) → AreOnce graph objects
    → list_any (λ (o : ObjId). conflicts_in (object_at graph o).state graph whole o) objects ≡ false → MayComeIn graph objects
come_in_of graph whole [] is inside once none = tt
come_in_of graph whole (object ∷ objects) is inside once none =
    let parts = or_false (conflicts_in (object_at graph object).state graph whole object) (list_any (λ (o : ObjId). conflicts_in (object_at graph o).state graph whole o) objects) none in (
      once.0,
      unheld_of graph whole object is parts.0,
      apart_from graph whole object objects (inside object (or_left (object.0 == object.0) (is_among objects object) (eq-eqb object.0 object.0 refl))) once.0 (once_made graph objects once.2) once.1 parts.1,
      come_in_of graph whole objects is (λ other among. inside other (or_right (other.0 == object.0) (is_among objects other) among)) once.2 parts.1,
    )

-- where no conflict is found
pub may_come : (graph : Graph) (objects : List ObjId) → IsGraph graph.objects graph.roots → has_conflict graph objects ≡ false → AreOnce graph objects → MayComeIn graph objects
may_come graph objects is none once = come_in_of graph objects objects is (λ object among. among) once none

-- ---- each may when it is its turn

away : (p a b : Bool) → p ≡ false → (p && (a && b)) ≡ false
away true a b h = absurd cc
away false a b h = refl

-- what an object that came in holds
taken_holds : (state : State) (number : ℕ) (o : Object) (root own : ClassId) (key : List Value) → o.state ≡ state → (state ≡ Persistent → holds root key (o, own) ≡ false)
    → (state ≡ Detached → own.0 ≡ root.0 → has_key key o.identity ≡ false) → holds root key (object_taken state number o, own) ≡ false
taken_holds Transient number o root own key is persists detached = refl
taken_holds Pending number o root own key is persists detached = away (is_persistent o.state) (own.0 == root.0) (has_key key o.identity) (ap is_persistent is)
taken_holds Persistent number o root own key is persists detached = persists refl
taken_holds Deleted number o root own key is persists detached = away (is_persistent o.state) (own.0 == root.0) (has_key key o.identity) (ap is_persistent is)
taken_holds Detached number o root own key is persists detached =
    let new : Object = returned_object o in
    let identity : new.identity ≡ o.identity = identity_left (expired_object (record o { state = Persistent; marked = false })) (changed_values 0 o.cells) in
    false_of (holds root key (new, own))
    (λ held.
    let both = (and_parts (is_persistent new.state) (own.0 == root.0 && has_key key new.identity) held).1 in
    let parts = and_parts (own.0 == root.0) (has_key key new.identity) both in
    clash (has_key key o.identity) (ap (has_key key) (sym identity) ∙ parts.1) (detached refl (eqb-true own.0 root.0 parts.0)))

pub other_still : (graph : Graph) (object other : ObjId) (new : Object) → place_of other ≢ place_of object → object_at (with_object graph object new) other ≡ object_at graph other
other_still graph object other new differs = get_or-set_other graph.objects (place_of object) (place_of other) new no_object differs

-- an identity that another object does not bring stays free
unheld_later : (graph : Graph) (object other : ObjId) (number : ℕ) → IsObject graph object → place_of other ≢ place_of object
    → ((object_at graph other).state ≡ Detached → (key : List Value) → (object_at graph other).identity ≡ Some key → (root_at graph object).0 ≡ (root_at graph other).0 → has_key key (object_at graph object).identity ≡ false)
    → IsUnheld graph other → IsUnheld (with_object graph object (taken_under number (object_at graph object))) other
unheld_later graph object other number made differs apart none detached key has place =
    let o : Object = object_at graph object in
    let new : Object = taken_under number o in
    let still : object_at (with_object graph object new) other ≡ object_at graph other = other_still graph object other new differs in
    let was : (object_at graph other).state ≡ Detached = sym (ap (λ (x : Object). x.state) still) ∙ detached in
    let had : (object_at graph other).identity ≡ Some key = sym (ap (λ (x : Object). x.identity) still) ∙ has in
    let root : ClassId = root_at graph other in
    let within : place_of object < length graph.objects = omega (arith, made.0, made.1) in
    ⊎_elim
    (λ (same : place ≡ place_of object).
    let own : holds root key (o, root_at graph object) ≡ false = none was key had (place_of object) in
    ap (λ (p : ℕ). holds_at (with_object graph object new).objects graph.roots root key p) same
    ∙ at_same graph.objects graph.roots root key (place_of object) new within
    ∙ taken_holds o.state number o root (root_at graph object) key refl (λ persists. own) (λ back rooted. apart was key had rooted))
    (λ (away_ : place ≢ place_of object).
    at_other graph.objects graph.roots root key (place_of object) place new away_ ∙ none was key had place)
    (cases_eq place (place_of object))

apart_later : (graph : Graph) (object one : ObjId) (others : List ObjId) (new : Object) → place_of one ≢ place_of object → IsApart graph object others → IsApart graph one others → IsApart (with_object graph object new) one others
apart_later graph object one [] new differs away_ apart = tt
apart_later graph object one (other ∷ others) new differs away_ apart =
    let g : Graph = with_object graph object new in
    let first : object_at g one ≡ object_at graph one = other_still graph object one new differs in
    let second : object_at g other ≡ object_at graph other = other_still graph object other new away_.0 in (
      apart.0,
      (λ detached key has root.
          ap (λ (x : Object). has_key key x.identity) first
          ∙ apart.1 (sym (ap (λ (x : Object). x.state) second) ∙ detached) key (sym (ap (λ (x : Object). x.identity) second) ∙ has) root),
      apart_later graph object one others new differs away_.2 apart.2,
    )

come_later : (graph : Graph) (object : ObjId) (objects : List ObjId) (number : ℕ) → IsObject graph object → IsApart graph object objects → MayComeIn graph objects → MayComeIn (with_object graph object (taken_under number (object_at graph object))) objects
come_later graph object [] number made apart may = tt
come_later graph object (other ∷ others) number made apart may =
    let new : Object = taken_under number (object_at graph object) in
    let long : length (with_object graph object new).objects ≡ length graph.objects = length-set graph.objects (place_of object) new in (
      (may.0.0, rw long may.0.1),
      unheld_later graph object other number made apart.0 apart.1 may.1,
      apart_later graph object other others new apart.0 apart.2 may.2,
      come_later graph object others number made apart.2 may.3,
    )

pub may_join : (objects : List ObjId) (session : SessionState) → length session.graph.roots ≡ length session.graph.objects → MayComeIn session.graph objects → MayJoin session objects
may_join [] session rooted may = tt
may_join (object ∷ objects) session rooted may =
    let new : Object = taken_under (one_more session.added) (object_at session.graph object) in (
      may.0,
      may_return session.graph object rooted may.1,
      may_join objects (session_taken object session) (rooted ∙ sym (length-set session.graph.objects (place_of object) new)) (come_later session.graph object objects (one_more session.added) may.0 may.2 may.3),
    )

-- ---- one after another

pub join_turn : (objects : List ObjId) (i : ℕ) (d : ObjId) (session : SessionState) → i < length objects → MayJoin session (drop i objects) → MayJoin session (get_or objects i d ∷ drop (i + 1) objects)
join_turn objects i d session less may = subst (MayJoin session) (drop_more objects i d less) may

pub join_more : (objects : List ObjId) (i : ℕ) (d : ObjId) (session new whole : SessionState) → i < length objects → new ≡ session_taken (get_or objects i d) session → session_joined (drop i objects) session ≡ whole → session_joined (drop (i + 1) objects) new ≡ whole
join_more objects i d session new whole less put so_far =
    ap (session_joined (drop (i + 1) objects)) put ∙ ap (λ (os : List ObjId). session_joined os session) (sym (drop_more objects i d less)) ∙ so_far

pub join_all : (objects : List ObjId) (i : ℕ) (session whole : SessionState) → length objects ≤ i → session_joined (drop i objects) session ≡ whole → session ≡ whole
join_all objects i session whole ended so_far = sym (ap (λ (os : List ObjId). session_joined os session) (drop_all i objects ended)) ∙ so_far

-- ---- where objects stand as they stood, they may come in still

-- each object stands as it stood
pub record StandAlike (old new : Graph) : Type 0 where
  pub long : length new.objects ≡ length old.objects
  pub roots : new.roots ≡ old.roots
  pub state : (place : ℕ) → (get_or new.objects place no_object).state ≡ (get_or old.objects place no_object).state
  pub identity : (place : ℕ) → (get_or new.objects place no_object).identity ≡ (get_or old.objects place no_object).identity

held_alike : (old new : Graph) (root : ClassId) (key : List Value) (place : ℕ) → StandAlike old new → holds_at new.objects new.roots root key place ≡ holds_at old.objects old.roots root key place
held_alike old new root key place same = rw (same.roots, same.state place, same.identity place) refl

root_alike : (old new : Graph) (object : ObjId) → StandAlike old new → root_at new object ≡ root_at old object
root_alike old new object same = ap (λ (roots : List ClassId). get_or roots (place_of object) no_class_id) same.roots

unheld_still : (old new : Graph) (object : ObjId) → StandAlike old new → IsUnheld old object → IsUnheld new object
unheld_still old new object same none detached key has place =
    ap (λ (root : ClassId). holds_at new.objects new.roots root key place) (root_alike old new object same)
    ∙ held_alike old new (root_at old object) key place same
    ∙ none (sym (same.state (place_of object)) ∙ detached) key (sym (same.identity (place_of object)) ∙ has) place

apart_still : (old new : Graph) (object : ObjId) (others : List ObjId) → StandAlike old new → IsApart old object others → IsApart new object others
apart_still old new object [] same apart = tt
apart_still old new object (other ∷ others) same apart = (
  apart.0,
  (λ detached key has root.
      ap (has_key key) (same.identity (place_of object))
      ∙ apart.1 (sym (same.state (place_of other)) ∙ detached) key (sym (same.identity (place_of other)) ∙ has)
      (sym (ap (λ (r : ClassId). r.0) (root_alike old new object same)) ∙ root ∙ ap (λ (r : ClassId). r.0) (root_alike old new other same))),
  apart_still old new object others same apart.2,
)

pub come_still : (old new : Graph) (objects : List ObjId) → StandAlike old new → MayComeIn old objects → MayComeIn new objects
come_still old new [] same may = tt
come_still old new (object ∷ objects) same may = (
  (may.0.0, rw same.long may.0.1),
  unheld_still old new object same may.1,
  apart_still old new object objects same may.2,
  come_still old new objects same may.3,
)
