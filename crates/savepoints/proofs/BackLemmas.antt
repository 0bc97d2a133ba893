-- Objects that go back to where they stood, one after another.
use Rattle.std.proofs.Common.{◌≡◌, ◌≢◌, ℕ, ◌+◌, ◌-◌, ◌<◌, ◌≤◌, Bool, true, false, ◌&&◌, ◌||◌, List, [], ◌∷◌, length, map, get_or, zero, suc, Option, None, Some, is_some, refl, sym, ap, ◌∙◌, subst, ⊎_elim, arith, cond}
use Rattle.std.specs.Prelude.{not, nat_lt, ◌==◌, if◌then◌else◌}
use Rattle.std.specs.Option.{option_map}
use Rattle.std.specs.List.{All, enumerate_from, position, position_or_len, zip}
use Rattle.std.proofs.lemmas.Bool.{and_from, and_parts, cases_Bool, cases_eq, cases_lt, eq-eqb, eqb-true}
use Rattle.std.proofs.lemmas.Bool.Decides.{nat_tests}
use Rattle.std.proofs.lemmas.List.{get_or-map, get_or_past, length-map}
use Rattle.std.proofs.lemmas.List.Elements.{All-map}
use Rattle.std.proofs.lemmas.List.FromFn.{get_or-enumerate_from, length-enumerate_from}
use Rattle.base_core.specs.declared.ids.ClassId.{ClassId}
use Rattle.base_core.specs.declared.ids.ObjId.{ObjId}
use Rattle.base_core.specs.declared.value.Value.{Value}
use Rattle.object_arena.specs.declared.object.Object.{Object}
use Rattle.object_arena.specs.declared.object.State.{State}
use Rattle.object_arena.specs.declared.object.State.TheVariants.{Transient, Pending, Persistent, Deleted, Detached}
use Rattle.object_arena.specs.Graph.{Graph, has_identity, is_persistent, no_class_id, no_object, object_at, put_back_object, with_object}
use Rattle.object_arena.specs.Identity.{IsGraph, has_key, holds, holds_at, is_other, id_of_place}
use Rattle.object_arena.specs.Every.{each_object, each_placed}
use Rattle.object_arena.proofs.GraphLemmas.{held_position, key_along}
use Rattle.object_arena.proofs.HolderLemmas.{place_holds}
use Rattle.object_arena.proofs.TurnLemmas.{graph_before, placed_all, placed_done, placed_left, placed_long, placed_more, placed_past}
use Rattle.savepoints.specs.declared.scope.Standing.{Standing}
use Rattle.savepoints.specs.declared.scope.Scope.{Scope}
use Rattle.savepoints.specs.declared.traces.Trace.{Trace}
use Rattle.savepoints.specs.Scopes.{all_wanted, any_below, back_to, contested_state, is_lost, loaded_standing, made_since, put_back_all, put_back_to, since, standing_at, standing_of, stood_again, trace_in, wanted_standing}
use Rattle.savepoints.specs.Restoring.{IsFree, freed_object, is_held, set_free, with_back}

-- ---- where an object stands

-- an object that was put back stands where it was to
pub stands_back : (object : Object) (state : State) (identity : Option (List Value)) → standing_of (put_back_object object state identity) ≡ record { state = state; identity = identity }
stands_back object Transient identity = refl
stands_back object Pending identity = refl
stands_back object Persistent identity = refl
stands_back object Deleted identity = refl
stands_back object Detached identity = refl

-- an object of a graph in which each was changed
pub each_at : (change : ℕ → Object → Object) (graph : Graph) (i : ℕ) (d e : Object) → i < length graph.objects → get_or (each_placed change graph).objects i d ≡ change i (get_or graph.objects i e)
each_at change graph i d e less =
    let one : ℕ × Object → Object = λ placed. change placed.0 placed.1 in
    let inside : i < length (enumerate_from 0 graph.objects) = rw length-enumerate_from less in
    let place : 0 + i ≡ i = omega arith in
    get_or-map one (enumerate_from 0 graph.objects) i (0, e) d inside
    ∙ ap one (get_or-enumerate_from 0 graph.objects i (0, e) less)
    ∙ ap (λ (p : ℕ). change p (get_or graph.objects i e)) place

pub each_long : (change : ℕ → Object → Object) (graph : Graph) → length (each_placed change graph).objects ≡ length graph.objects
each_long change graph = length-map (enumerate_from 0 graph.objects) (λ placed. change placed.0 placed.1) ∙ length-enumerate_from 0 graph.objects

-- an object is to stand where a scope with the same standing of it says
pub wanted_same : (old now : Scope) (traces : List Trace) (i p : ℕ) (object : Object) → p ≡ i → standing_at now i ≡ standing_at old i → length now.standings ≡ length old.standings → wanted_standing now traces p object ≡ wanted_standing old traces i object
wanted_same old now traces i p object place same long =
    ap (λ (k : ℕ). wanted_standing now traces k object) place
    ∙ ap (λ (n : ℕ). if nat_lt i n then standing_at now i else since (trace_in traces i).loaded object.identity) long
    ∙ ap (λ (s : Standing). if nat_lt i (length old.standings) then s else since (trace_in traces i).loaded object.identity) same

-- who holds, by where it stands
abbrev pub stands_under : ClassId → List Value → ClassId → Standing → Bool
stands_under root key own standing = is_persistent standing.state && (own.0 == root.0 && has_key key standing.identity)

-- ---- some place below

pub below_from : (test : ℕ → Bool) (n j : ℕ) → j < n → test j ≡ true → any_below test n ≡ true
below_from test zero j less h = absurd (omega arith)
below_from test (suc n) j less h =
    ⊎_elim
    (λ (same : j ≡ n). first (test n) (any_below test n) (subst (λ (k : ℕ). test k ≡ true) same h))
    (λ (other : j ≢ n). second (test n) (any_below test n) (below_from test n j (omega arith) h))
    (cases_eq j n)
  where
    first : (a b : Bool) → a ≡ true → (a || b) ≡ true
    first true b e = refl
    first false b e = absurd cc

    second : (a b : Bool) → b ≡ true → (a || b) ≡ true
    second true b e = refl
    second false b e = e

pub below_some : (test : ℕ → Bool) (n : ℕ) → any_below test n ≡ true → (j : ℕ) × (j < n) × (test j ≡ true)
below_some test zero h = absurd cc
below_some test (suc n) h =
    ⊎_elim
    (λ (here : test n ≡ true). (n, omega arith, here))
    (λ (out : test n ≡ false).
    let found = below_some test n (later (test n) (any_below test n) out h) in
    (found.0, omega (arith, found.1), found.2))
    (cases_Bool (test n))
  where
    later : (a b : Bool) → a ≡ false → (a || b) ≡ true → b ≡ true
    later true b e f = absurd cc
    later false b e f = f

-- ---- objects that were set free

-- a list that was changed before it is changed place by place
each_then : {X Y : Type 0} (change : ℕ → X → Y) (second : ℕ → X → Y) (first : X → X) (n : ℕ) (xs : List X) → ((place : ℕ) (x : X) → change place (first x) ≡ second place x) → map (λ placed. change placed.0 placed.1) (enumerate_from n (map first xs)) ≡ map (λ placed. second placed.0 placed.1) (enumerate_from n xs)
each_then change second first n [] same = refl
each_then change second first n (x ∷ xs) same = rw same (ap (λ ys. second n x ∷ ys) (each_then change second first (n + 1) xs same))

freed_identity : (identity : Option (List Value)) (object : Object) → object.identity ≡ identity → (freed_object identity object).identity ≡ object.identity
freed_identity None object is = sym is
freed_identity (Some key) object is = sym is

freed_back : (identity : Option (List Value)) (object : Object) (standing : Standing) (lost : Bool) → back_to standing lost (freed_object identity object) ≡ back_to standing lost object
freed_back None object standing lost = refl
freed_back (Some key) object standing lost = refl

freed_to : (identity : Option (List Value)) (object : Object) (standing : Standing) → put_back_to standing (freed_object identity object) ≡ put_back_to standing object
freed_to None object standing = refl
freed_to (Some key) object standing = refl

freed_wanted : (scope : Scope) (traces : List Trace) (place : ℕ) (object : Object) → wanted_standing scope traces place (set_free object) ≡ wanted_standing scope traces place object
freed_wanted scope traces place object =
    ap (λ (identity : Option (List Value)). if nat_lt place (length scope.standings) then standing_at scope place else since (trace_in traces place).loaded identity) (freed_identity object.identity object refl)

wanted_free : (scope : Scope) (traces : List Trace) (graph : Graph) → all_wanted scope traces (each_object set_free graph) ≡ all_wanted scope traces graph
wanted_free scope traces graph =
    ap (λ (objects : List Object). record { objects = objects; roots = graph.roots })
    (each_then (λ place object. put_back_to (wanted_standing scope traces place object) object) (λ place object. put_back_to (wanted_standing scope traces place object) object) set_free 0 graph.objects
    (λ place object. ap (λ (s : Standing). put_back_to s (set_free object)) (freed_wanted scope traces place object) ∙ freed_to object.identity object (wanted_standing scope traces place object)))

-- objects that were set free go back as they would have
pub free_back : (scope : Scope) (traces : List Trace) (graph : Graph) → put_back_all scope traces (each_object set_free graph) ≡ put_back_all scope traces graph
unfolding put_back_all
free_back scope traces graph =
    ap (λ (objects : List Object). record { objects = objects; roots = graph.roots })
    (each_then (stood_again scope traces (each_object set_free graph)) (stood_again scope traces graph) set_free 0 graph.objects
    (λ place object.
    ap (λ (g : Graph). back_to (wanted_standing scope traces place (set_free object)) (is_lost g place (wanted_standing scope traces place (set_free object)).identity) (set_free object)) (wanted_free scope traces graph)
    ∙ ap (λ (s : Standing). back_to s (is_lost (all_wanted scope traces graph) place s.identity) (set_free object)) (freed_wanted scope traces place object)
    ∙ freed_back object.identity object (wanted_standing scope traces place object) (is_lost (all_wanted scope traces graph) place (wanted_standing scope traces place object).identity)))

freed_left : (identity : Option (List Value)) (object : Object) → IsFree (freed_object identity object)
freed_left None object = refl
freed_left (Some key) object = refl

-- an object that was set free is not persistent
pub free_left : (graph : Graph) → All IsFree (each_object set_free graph).objects
free_left graph = All-map IsFree set_free graph.objects (λ k d less. freed_left (get_or graph.objects k d).identity (get_or graph.objects k d))

-- the two ways of setting free
pub freed_some : (object : Object) (identity : Option (List Value)) → object.identity ≡ identity → is_some identity ≡ true → put_back_object object Detached object.identity ≡ freed_object identity object
freed_some object None is h = absurd cc
freed_some object (Some key) is h = ap (λ (i : Option (List Value)). put_back_object object Detached i) is

pub freed_none : (object : Object) (identity : Option (List Value)) → object.identity ≡ identity → is_some identity ≡ false → put_back_object object Pending object.identity ≡ freed_object identity object
freed_none object None is h = ap (λ (i : Option (List Value)). put_back_object object Pending i) is
freed_none object (Some key) is h = absurd cc

-- ---- who is persistent in the end

module _ (scope : Scope) (traces : List Trace) (graph : Graph) where
  abbrev pub change : ℕ → Object → Object
  change = stood_again scope traces graph

  abbrev pub there : Graph
  there = all_wanted scope traces graph

  abbrev pub want : ℕ → Standing
  want i = wanted_standing scope traces i (get_or graph.objects i no_object)

  abbrev pub own : ℕ → ClassId
  own i = get_or graph.roots i no_class_id

  abbrev pub lost : ℕ → Bool
  lost i = is_lost there i (want i).identity

  -- the object at a place is persistent in the end
  abbrev pub ends_under : ClassId → List Value → ℕ → Type 0
  ends_under root key j = holds root key (change j (get_or graph.objects j no_object), own j) ≡ true

  wanted_is : (root : ClassId) (key : List Value) (j : ℕ) → j < length graph.objects → holds_at there.objects graph.roots root key j ≡ stands_under root key (own j) (want j)
  wanted_is root key j less =
      ap (λ (o : Object). holds root key (o, own j)) (each_at (λ place object. put_back_to (wanted_standing scope traces place object) object) graph j no_object no_object less)
      ∙ ap (stands_under root key (own j)) (stands_back (get_or graph.objects j no_object) (want j).state (want j).identity)

  ends_is : (root : ClassId) (key : List Value) (j : ℕ) → holds root key (change j (get_or graph.objects j no_object), own j) ≡ stands_under root key (own j) (record { state = contested_state (lost j) (want j).state; identity = (want j).identity })
  ends_is root key j = ap (stands_under root key (own j)) (stands_back (get_or graph.objects j no_object) (contested_state (lost j) (want j).state) (want j).identity)

  uncontested : (b : Bool) (state : State) → is_persistent (contested_state b state) ≡ true → is_persistent state ≡ true
  uncontested true Transient h = h
  uncontested true Pending h = h
  uncontested true Persistent h = refl
  uncontested true Deleted h = h
  uncontested true Detached h = h
  uncontested false state h = h

  -- who is persistent in the end was to be
  ends_wanted : (root : ClassId) (key : List Value) (j : ℕ) → j < length graph.objects → ends_under root key j → holds_at there.objects graph.roots root key j ≡ true
  ends_wanted root key j less held =
      let parts = and_parts (is_persistent (contested_state (lost j) (want j).state)) ((own j).0 == root.0 && has_key key (want j).identity) (sym (ends_is root key j) ∙ held) in
      wanted_is root key j less
      ∙ and_from (is_persistent (want j).state) ((own j).0 == root.0 && has_key key (want j).identity) (uncontested (lost j) (want j).state parts.0) parts.1

  kept_under : (root : ClassId) (key : List Value) (j : ℕ) → lost j ≡ false → stands_under root key (own j) (want j) ≡ true → ends_under root key j
  kept_under root key j free held =
      ends_is root key j ∙ ap (λ (b : Bool). stands_under root key (own j) (record { state = contested_state b (want j).state; identity = (want j).identity })) free ∙ held

  -- one before that is to be persistent under the identity that another would have
  lost_before : (root : ClassId) (key : List Value) (j : ℕ) (identity : Option (List Value)) → (own j).0 ≡ root.0 → has_key key identity ≡ true → is_lost there j identity ≡ true → (m : ℕ) × (m < j) × (holds_at there.objects graph.roots root key m ≡ true)
  lost_before root key j None same has h = absurd cc
  lost_before root key j (Some it) same has h =
      let found = below_some (holds_at there.objects graph.roots (own j) it) j h in
      (found.0, found.1, key_along there.objects graph.roots (own j) root it key found.0 same has found.2)

  -- where one was to be persistent, one of no greater number is
  pub first_ends : (n : ℕ) (root : ClassId) (key : List Value) (j : ℕ) → j < n → j < length graph.objects → holds_at there.objects graph.roots root key j ≡ true → (m : ℕ) × (m ≤ j) × ends_under root key m
  first_ends zero root key j below less held = absurd (omega arith)
  first_ends (suc n) root key j below less held =
      let stands : stands_under root key (own j) (want j) ≡ true = sym (wanted_is root key j less) ∙ held in
      let inner = (and_parts (is_persistent (want j).state) ((own j).0 == root.0 && has_key key (want j).identity) stands).1 in
      let both = and_parts ((own j).0 == root.0) (has_key key (want j).identity) inner in
      ⊎_elim
      (λ (taken : lost j ≡ true).
      let before = lost_before root key j (want j).identity (eqb-true (own j).0 root.0 both.0) both.1 taken in
      let rest = first_ends n root key before.0 (omega (arith, before.1)) (omega (arith, before.1)) before.2 in
      (rest.0, omega (arith, rest.1, before.1), rest.2))
      (λ (free : lost j ≡ false). (j, omega arith, kept_under root key j free stands))
      (cases_Bool (lost j))

  -- ---- on the way

  abbrev objs : ℕ → List Object
  objs i = (graph_before change graph i).objects

  -- who is persistent on the way has gone back
  went_before : (i j : ℕ) (root : ClassId) (key : List Value) → All IsFree graph.objects → holds_at (objs i) graph.roots root key j ≡ true → (j < i) × (j < length graph.objects) × ends_under root key j
  went_before i j root key left held =
      let Held : Object → Type 0 = λ o. holds root key (o, own j) ≡ true in
      ⊎_elim
      (λ (less : j < length graph.objects).
      ⊎_elim
      (λ (before : j < i).
      let place : 0 + j ≡ j = omega arith in (
        before,
        less,
        subst Held (placed_done change 0 graph.objects i j no_object no_object before less ∙ ap (λ (p : ℕ). change p (get_or graph.objects j no_object)) place) held,
      ))
      (λ (after : i ≤ j).
      let it : Held (get_or graph.objects j no_object) = subst Held (placed_left change 0 graph.objects i j no_object after) held in
      let persistent : is_persistent (get_or graph.objects j no_object).state ≡ true = (and_parts (is_persistent (get_or graph.objects j no_object).state) _ it).0 in
      let none : is_persistent (get_or graph.objects j no_object).state ≡ false = left j no_object less in
      absurd (let e : true ≡ false = sym persistent ∙ none in cc))
      (cases_lt j i))
      (λ (past : length graph.objects ≤ j).
      let none : false ≡ true = subst Held (placed_past change 0 graph.objects i j no_object past) held in
      absurd cc)
      (cases_lt j (length graph.objects))

  gone_back : (i j : ℕ) (root : ClassId) (key : List Value) → j < i → j < length graph.objects → ends_under root key j → holds_at (objs i) graph.roots root key j ≡ true
  gone_back i j root key before less held =
      let Held : Object → Type 0 = λ o. holds root key (o, own j) ≡ true in
      let place : 0 + j ≡ j = omega arith in
      subst Held (sym (placed_done change 0 graph.objects i j no_object no_object before less ∙ ap (λ (p : ℕ). change p (get_or graph.objects j no_object)) place)) held

  other_found : (i p : ℕ) → p < i → is_other (id_of_place i) (Some (id_of_place p)) ≡ true
  other_found i p less = grind (arith, nat_tests)

  -- another object is persistent under the identity exactly where one before was to be
  taken_then : (i : ℕ) (key : List Value) (found : Option ℕ) → i < length graph.objects → length graph.roots ≡ length graph.objects → All IsFree graph.objects → position (holds (own i) key) (zip (objs i) graph.roots) ≡ found
      → is_other (id_of_place i) (option_map id_of_place found) ≡ is_lost there i (Some key)
  taken_then i key None less rooted left at =
      ⊎_elim
      (λ (some : is_lost there i (Some key) ≡ true).
      let before = below_some (holds_at there.objects graph.roots (own i) key) i some in
      let ends = first_ends i (own i) key before.0 before.1 (omega (arith, before.1)) before.2 in
      let held = gone_back i ends.0 (own i) key (omega (arith, ends.1, before.1)) (omega (arith, ends.1, before.1)) ends.2 in
      absurd (held_position (objs i) graph.roots (own i) key ends.0 (rooted ∙ sym (placed_long change 0 graph.objects i)) held at))
      (λ (none : is_lost there i (Some key) ≡ false). sym none)
      (cases_Bool (is_lost there i (Some key)))
  taken_then i key (Some p) less rooted left at =
      let held = (place_holds (objs i) graph.roots (own i) key p (rooted ∙ sym (placed_long change 0 graph.objects i)) at).1 in
      let went = went_before i p (own i) key left held in
      other_found i p went.0 ∙ sym (below_from (holds_at there.objects graph.roots (own i) key) i p went.0 (ends_wanted (own i) key p went.1 went.2))

  held_then : (i n : ℕ) (now : Graph) (identity : Option (List Value)) → n ≡ i + 1 → now ≡ graph_before change graph i → i < length graph.objects → length graph.roots ≡ length graph.objects → All IsFree graph.objects
      → (let object : ObjId = record { 0 = n } in is_held now object identity ≡ is_lost there i identity)
  held_then i n now None number so_far less rooted left = refl
  held_then i n now (Some key) number so_far less rooted left =
      let place : n - 1 ≡ i = omega arith in
      let Taken : Graph → ℕ → ℕ → Bool = λ g p k. let o : ObjId = record { 0 = k } in is_other o (option_map id_of_place (position (holds (get_or g.roots p no_class_id) key) (zip g.objects g.roots))) in
      ap (λ (g : Graph). Taken g (n - 1) n) so_far
      ∙ ap (λ (p : ℕ). Taken (graph_before change graph i) p n) place
      ∙ ap (λ (k : ℕ). Taken (graph_before change graph i) i k) number
      ∙ taken_then i key (position (holds (own i) key) (zip (objs i) graph.roots)) less rooted left refl

  -- none has gone back yet
  pub back_none : graph ≡ graph_before change graph 0
  back_none = refl

  -- one object more
  pub back_more : (now new : Graph) (i n : ℕ) (standing : Standing) → i < length graph.objects → length graph.roots ≡ length graph.objects → All IsFree graph.objects → now ≡ graph_before change graph i → n ≡ i + 1
      → (let object : ObjId = record { 0 = n } in standing ≡ wanted_standing scope traces i (object_at now object)) → (let object : ObjId = record { 0 = n } in new ≡ with_back now object standing) → new ≡ graph_before change graph (i + 1)
  back_more now new i n standing less rooted left so_far number is write =
      let object : ObjId = record { 0 = n } in
      let place : n - 1 ≡ i = omega arith in
      let here : object_at now object ≡ get_or graph.objects i no_object =
      ap (λ (g : Graph). get_or g.objects (n - 1) no_object) so_far ∙ ap (λ (p : ℕ). get_or (objs i) p no_object) place ∙ placed_left change 0 graph.objects i i no_object (omega arith) in
      let stands : standing ≡ wanted_standing scope traces i (object_at now object) = is in
      placed_more change graph now new i n less so_far number
      (write
      ∙ ap (λ (s : Standing). with_object now object (back_to s (is_held now object s.identity) (object_at now object))) stands
      ∙ ap (λ (b : Bool). with_object now object (back_to (wanted_standing scope traces i (object_at now object)) b (object_at now object)))
      (held_then i n now (wanted_standing scope traces i (object_at now object)).identity number so_far less rooted left))

  -- all of them
  pub back_all : (now : Graph) (i : ℕ) → length graph.objects ≤ i → now ≡ graph_before change graph i → now ≡ put_back_all scope traces graph
  unfolding put_back_all
  back_all now i ended so_far = placed_all change graph now i ended so_far
