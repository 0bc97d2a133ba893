-- A rollback leaves a session sound.
use Rattle.std.proofs.Common.{◌≡◌, ◌≢◌, ℕ, ◌<◌, ◌≤◌, Bool, true, false, ◌&&◌, ◌||◌, not, List, length, get_or, zero, suc, Option, None, Some, ⊎_elim, refl, sym, ap, ◌∙◌, subst, arith}
use Rattle.std.specs.Prelude.{◌==◌, if◌then◌else◌, is_some, nat_le, nat_lt}
use Rattle.std.proofs.lemmas.Bool.{and_from, and_parts, cases_Bool, cases_lt, eq-eqb, eqb-true}
use Rattle.std.proofs.lemmas.Bool.Decides.{nat_tests}
use Rattle.std.proofs.lemmas.List.{get_or_past}
use Rattle.base_core.specs.declared.ids.ClassId.{ClassId}
use Rattle.base_core.specs.declared.value.Value.{Value}
use Rattle.class_mapping.specs.Mapped.{Mapped}
use Rattle.object_arena.specs.declared.object.Cell.{Cell}
use Rattle.object_arena.specs.declared.object.Object.{Object}
use Rattle.object_arena.specs.declared.object.State.{State}
use Rattle.object_arena.specs.declared.object.State.TheVariants.{Transient, Pending, Persistent, Deleted, Detached}
use Rattle.object_arena.specs.Graph.{Graph, expired_cell, has_identity, is_persistent, no_class_id, no_object, put_back_object}
use Rattle.object_arena.specs.Identity.{IsGraph, has_key, holds, holds_at, is_identified}
use Rattle.object_arena.proofs.GraphLemmas.{held_inside, key_along, same_equiv}
use Rattle.schema_core.specs.Tables.{Tables}
use Rattle.savepoints.specs.declared.scope.Scope.{Scope}
use Rattle.savepoints.specs.declared.scope.Standing.{Standing}
use Rattle.savepoints.specs.Scopes.{Framed, all_wanted, any_below, back_to, contested_state, expired_in, expired_where, is_lost, is_touched, loaded_standing, made_since, put_back_all, put_back_to, read_again, restored_graph, scope_at, since, standing_at, standing_of, stood_again, trace_in, wanted_standing}
use Rattle.savepoints.proofs.BackLemmas.{below_some, each_at, each_long, stands_back}
use Rattle.session_laws.proofs.Scopes.Back.{read_stands, uncontested}
use Rattle.session_laws.proofs.Scopes.Inside.{restored_long}
use Rattle.session_laws.specs.Sound.{AreApart, AreUnloaded, EachObject, IsAsAtStart, IsAtRest, IsFresh, IsFreshUnder, IsSoundScope, as_object}
use Rattle.session_laws.proofs.Sound.Everyone.{expired_cells, not_held, unloaded_links}
use Rattle.session_laws.proofs.Sound.Touches.{not_true}

-- ---- an object that goes back

back_marked : (o : Object) (state : State) (identity : Option (List Value)) → (put_back_object o state identity).marked ≡ false
back_marked o Transient identity = refl
back_marked o Pending identity = refl
back_marked o Persistent identity = refl
back_marked o Deleted identity = refl
back_marked o Detached identity = refl

persistent_back : (o : Object) (state : State) (identity : Option (List Value)) → is_persistent state ≡ true → put_back_object o state identity ≡ record o { state = state; identity = identity; marked = false }
persistent_back o Transient identity is = absurd cc
persistent_back o Pending identity is = absurd cc
persistent_back o Persistent identity is = refl
persistent_back o Deleted identity is = absurd cc
persistent_back o Detached identity is = absurd cc

expired_marked : (state : State) (o : Object) → (expired_in state o).marked ≡ o.marked
expired_marked Transient o = refl
expired_marked Pending o = refl
expired_marked Persistent o = refl
expired_marked Deleted o = refl
expired_marked Detached o = refl

read_marked : (is_read : Bool) (o : Object) → (expired_where is_read o).marked ≡ o.marked
read_marked true o = expired_marked o.state o
read_marked false o = refl

-- nothing is known of an object that is to be read again
expired_at : (state : State) (o : Object) (place : ℕ) → o.state ≡ state → is_persistent o.state ≡ true → get_or (expired_in state o).cells place expired_cell ≡ expired_cell
expired_at Transient o place at persists = not_held o Transient refl at persists
expired_at Pending o place at persists = not_held o Pending refl at persists
expired_at Persistent o place at persists = expired_cells o.cells place
expired_at Deleted o place at persists = not_held o Deleted refl at persists
expired_at Detached o place at persists = not_held o Detached refl at persists

unloaded_at : (state : State) (o : Object) → o.state ≡ state → is_persistent o.state ≡ true → AreUnloaded (expired_in state o).links
unloaded_at Transient o at persists = not_held o Transient refl at persists
unloaded_at Pending o at persists = not_held o Pending refl at persists
unloaded_at Persistent o at persists = unloaded_links o.links
unloaded_at Deleted o at persists = not_held o Deleted refl at persists
unloaded_at Detached o at persists = not_held o Detached refl at persists

same_state : (is_read : Bool) (o : Object) → (expired_where is_read o).state ≡ o.state
same_state is_read o = ap (λ (s : Standing). s.state) (read_stands is_read o)

read_fresh : (mapped : Mapped) (tables : Tables) (o : Object) → IsFresh mapped tables (expired_where true o)
read_fresh mapped tables o = λ persists attr less base is.
    absurd (let h : None ≡ Some base = sym (ap (λ (c : Cell). c.base) (expired_at o.state o attr.0 refl (sym (ap is_persistent (same_state true o)) ∙ persists))) ∙ is in cc)

-- who is persistent in the end was to be, and did not lose its identity
contested_not : (lost : Bool) (state : State) → is_persistent (contested_state lost state) ≡ true → (is_persistent state ≡ true) × (lost ≡ false)
contested_not true Transient is = absurd cc
contested_not true Pending is = absurd cc
contested_not true Persistent is = absurd cc
contested_not true Deleted is = absurd cc
contested_not true Detached is = absurd cc
contested_not false state is = (is, refl)

-- an object that stands where it is to stand, and was not to be read again
stood_fresh : (mapped : Mapped) (tables : Tables) (o : Object) (want : Standing) (lost : Bool) → standing_of o ≡ want → IsFresh mapped tables o → IsFresh mapped tables (back_to want lost o)
stood_fresh mapped tables o want lost stands fresh = λ persists.
    let state : State = contested_state lost want.state in
    let kept : is_persistent state ≡ true = sym (ap (λ (s : Standing). is_persistent s.state) (stands_back o state want.identity)) ∙ persists in
    let held : is_persistent o.state ≡ true = ap (λ (s : Standing). is_persistent s.state) stands ∙ (contested_not lost want.state kept).0 in
    subst (λ (x : Object). IsFreshUnder mapped tables x x.identity) (sym (persistent_back o state want.identity kept))
    (subst (λ (key : Option (List Value)). IsFreshUnder mapped tables o key) (ap (λ (s : Standing). s.identity) stands) (fresh held))

back_fresh : (mapped : Mapped) (tables : Tables) (o : Object) (want : Standing) (lost is_read : Bool) → (is_read ≡ false → (standing_of o ≡ want) × IsFresh mapped tables o) → IsFresh mapped tables (expired_where is_read (back_to want lost o))
back_fresh mapped tables o want lost true known = read_fresh mapped tables (back_to want lost o)
back_fresh mapped tables o want lost false known = stood_fresh mapped tables o want lost (known refl).0 (known refl).1

-- ---- where objects are to stand

since_none : (is_loaded : Bool) (identity : Option (List Value)) → identity ≡ None → since is_loaded identity ≡ made_since
since_none true identity is = ap loaded_standing is
since_none false identity is = refl

since_identified : (is_loaded : Bool) (identity : Option (List Value)) → is_identified (as_object (since is_loaded identity)) ≡ true
since_identified true None = refl
since_identified true (Some key) = refl
since_identified false identity = refl

since_settled : (is_loaded : Bool) (identity : Option (List Value)) → (since is_loaded identity).state ≢ Pending
since_settled true None is = absurd cc
since_settled true (Some key) is = absurd cc
since_settled false identity is = absurd cc

-- what holds of a standing at the start, and of one since
either_stands : (P : Standing → Type 0) (within : Bool) (start later : Standing) → P start → P later → P (if within then start else later)
either_stands P true start later one other = one
either_stands P false start later one other = other

want_from : (within is_loaded : Bool) (o : Object) (start : Standing) → standing_of o ≡ start → (within ≡ false → start ≡ made_since) → standing_of o ≡ (if within then start else since is_loaded o.identity)
want_from true is_loaded o start stands past = stands
want_from false is_loaded o start stands past = stands ∙ past refl ∙ sym (since_none is_loaded o.identity (ap (λ (s : Standing). s.identity) (stands ∙ past refl)))

past_start : (scope : Scope) (place : ℕ) → nat_lt place (length scope.standings) ≡ false → standing_at scope place ≡ made_since
past_start scope place out = get_or_past scope.standings place made_since (grind (arith, nat_tests))

-- an object that stands as at the start is to stand so
want_is : (scope : Scope) (frames : Framed) (place : ℕ) (o : Object) → standing_of o ≡ standing_at scope place → standing_of o ≡ wanted_standing scope frames.traces place o
want_is scope frames place o stands = want_from (nat_lt place (length scope.standings)) (trace_in frames.traces place).loaded o (standing_at scope place) stands (past_start scope place)

contested_identified : (lost : Bool) (state : State) (identity : Option (List Value)) → (if has_identity state then is_some identity else not (is_some identity)) ≡ true
    → (if has_identity (contested_state lost state) then is_some identity else not (is_some identity)) ≡ true
contested_identified true Transient identity is = is
contested_identified true Pending identity is = is
contested_identified true Persistent identity is = is
contested_identified true Deleted identity is = is
contested_identified true Detached identity is = is
contested_identified false state identity is = is

contested_settled : (lost : Bool) (state : State) → state ≢ Pending → contested_state lost state ≢ Pending
contested_settled true Transient settled is = absurd cc
contested_settled true Pending settled is = settled refl
contested_settled true Persistent settled is = absurd cc
contested_settled true Deleted settled is = absurd cc
contested_settled true Detached settled is = absurd cc
contested_settled false state settled is = settled is

first_true : (a b : Bool) → a ≡ true → (a || b) ≡ true
first_true true b is = refl
first_true false b is = absurd cc

either_true : (a b : Bool) → b ≡ true → (a || b) ≡ true
either_true true b is = refl
either_true false b is = is

below_of : (test : ℕ → Bool) (n i : ℕ) → i < n → test i ≡ true → any_below test n ≡ true
below_of test zero i less passes = absurd (omega (arith, less))
below_of test (suc n) i less passes =
    ⊎_elim
    (λ (before : i < n). either_true (test n) (any_below test n) (below_of test n i before passes))
    (λ (after : n ≤ i). first_true (test n) (any_below test n) (ap test (let e : n ≡ i = omega (arith, less, after) in e) ∙ passes))
    (cases_lt i n)

second_false : (a b : Bool) → (a || b) ≡ false → b ≡ false
second_false true b is = absurd cc
second_false false b is = is

not_less : (i j n : ℕ) → i ≤ j → nat_lt i n ≡ false → nat_lt j n ≡ false
not_less i j n most out = grind (arith, nat_tests)

rest_read : (o : Object) → o.state ≢ Pending → o.marked ≡ false → IsAtRest (expired_where true o)
rest_read o settled unmarked = record {
  settled = λ is. settled (sym (same_state true o) ∙ is);
  unmarked = read_marked true o ∙ unmarked;
  expired = λ persists attr less. expired_at o.state o attr.0 refl (sym (ap is_persistent (same_state true o)) ∙ persists);
  unloaded = λ persists. unloaded_at o.state o refl (sym (ap is_persistent (same_state true o)) ∙ persists);
}

-- ---- the objects after a rollback

module _ (depth : ℕ) (frames : Framed) (graph : Graph) where
  abbrev pub start : Scope
  start = scope_at depth frames.scopes

  abbrev pub object : ℕ → Object
  object place = get_or graph.objects place no_object

  abbrev pub root : ℕ → ClassId
  root place = get_or graph.roots place no_class_id

  abbrev pub want : ℕ → Standing
  want place = wanted_standing start frames.traces place (object place)

  abbrev pub there : Graph
  there = all_wanted start frames.traces graph

  abbrev pub lost : ℕ → Bool
  lost place = is_lost there place (want place).identity

  abbrev pub is_read : ℕ → Bool
  is_read place = depth == 1 || nat_le depth (trace_in frames.traces place).depth

  -- the object at a place after the rollback, and where it stands
  abbrev pub again : ℕ → Object
  again place = expired_where (is_read place) (back_to (want place) (lost place) (object place))

  abbrev ends : ℕ → Standing
  ends place = record { state = contested_state (lost place) (want place).state; identity = (want place).identity }

  stands_at : (place : ℕ) → standing_of (again place) ≡ ends place
  stands_at place = read_stands (is_read place) (back_to (want place) (lost place) (object place)) ∙ stands_back (object place) (contested_state (lost place) (want place).state) (want place).identity

  pub again_at : (place : ℕ) (d : Object) → place < length graph.objects → get_or (restored_graph depth frames graph).objects place d ≡ again place
  unfolding restored_graph put_back_all
  again_at place d less =
      let back : Graph = put_back_all start frames.traces graph in
      each_at (read_again depth frames.traces) back place d no_object (omega (arith, less, each_long (stood_again start frames.traces graph) graph))
      ∙ ap (read_again depth frames.traces place) (each_at (stood_again start frames.traces graph) graph place no_object no_object less)

  pub same_roots : (restored_graph depth frames graph).roots ≡ graph.roots
  unfolding restored_graph put_back_all
  same_roots = refl

  -- what holds of each object after the rollback
  pub each_again : (P : Object → Type 0) → ((place : ℕ) → place < length graph.objects → P (again place)) → EachObject P (restored_graph depth frames graph)
  each_again P all place less =
      let within : place < length graph.objects = omega (arith, less, restored_long depth frames graph) in
      subst P (sym (again_at place no_object within)) (all place within)

  pub again_unmarked : (place : ℕ) → (again place).marked ≡ false
  again_unmarked place = read_marked (is_read place) (back_to (want place) (lost place) (object place)) ∙ back_marked (object place) (contested_state (lost place) (want place).state) (want place).identity

  -- ---- one object for each key

  there_is : (key_root : ClassId) (key : List Value) (place : ℕ) → place < length graph.objects → holds_at there.objects graph.roots key_root key place ≡ holds key_root key (as_object (want place), root place)
  there_is key_root key place less =
      ap (λ (o : Object). holds key_root key (o, root place)) (each_at (λ at o. put_back_to (wanted_standing start frames.traces at o) o) graph place no_object no_object less)
      ∙ ap (λ (s : Standing). holds key_root key (as_object s, root place)) (stands_back (object place) (want place).state (want place).identity)

  -- one that loses its identity
  lost_by : (key_root : ClassId) (key : List Value) (i j : ℕ) (identity : Option (List Value)) → i < j → holds_at there.objects graph.roots key_root key i ≡ true → key_root.0 ≡ (root j).0 → has_key key identity ≡ true → is_lost there j identity ≡ true
  lost_by key_root key i j None less held same has = absurd cc
  lost_by key_root key i j (Some it) less held same has =
      below_of (holds_at there.objects graph.roots (root j) it) j i less (key_along there.objects graph.roots key_root (root j) key it i same (same_equiv.symm key it ∙ has) held)

  record IsKeptUnder (key_root : ClassId) (key : List Value) (place : ℕ) : Type 0 where
    less : place < length graph.objects
    held : holds key_root key (as_object (want place), root place) ≡ true
    kept : lost place ≡ false
    same : (root place).0 ≡ key_root.0
    has : has_key key (want place).identity ≡ true

  kept_under : (key_root : ClassId) (key : List Value) (place : ℕ) → holds_at (restored_graph depth frames graph).objects graph.roots key_root key place ≡ true → IsKeptUnder key_root key place
  kept_under key_root key place found =
      let less : place < length graph.objects = omega (arith, held_inside (restored_graph depth frames graph).objects graph.roots key_root key place found, restored_long depth frames graph) in
      let held : holds key_root key (as_object (ends place), root place) ≡ true =
      sym (ap (λ (s : Standing). holds key_root key (as_object s, root place)) (stands_at place)) ∙ sym (ap (λ (o : Object). holds key_root key (o, root place)) (again_at place no_object less)) ∙ found in
      let parts = and_parts (is_persistent (contested_state (lost place) (want place).state)) (((root place).0 == key_root.0) && has_key key (want place).identity) held in
      let keyed = and_parts ((root place).0 == key_root.0) (has_key key (want place).identity) parts.1 in
      let both = contested_not (lost place) (want place).state parts.0 in
      record {
        less = less;
        held = and_from (is_persistent (want place).state) (((root place).0 == key_root.0) && has_key key (want place).identity) both.0 parts.1;
        kept = both.1;
        same = eqb-true (root place).0 key_root.0 keyed.0;
        has = keyed.1;
      }

  none_before : (key_root : ClassId) (key : List Value) (i j : ℕ) → i < j → IsKeptUnder key_root key i → IsKeptUnder key_root key j → ⊥
  none_before key_root key i j less one other =
      let taken : lost j ≡ true = lost_by key_root key i j (want j).identity less (there_is key_root key i one.less ∙ one.held) (sym other.same) other.has in
      let h : true ≡ false = sym taken ∙ other.kept in cc

  one_again : (key_root : ClassId) (key : List Value) (i j : ℕ) → IsKeptUnder key_root key i → IsKeptUnder key_root key j → i ≡ j
  one_again key_root key i j one other =
      ⊎_elim
      (λ (less : i < j). absurd (none_before key_root key i j less one other))
      (λ (most : j ≤ i). ⊎_elim (λ (less : j < i). absurd (none_before key_root key j i less other one)) (λ (least : i ≤ j). omega (arith, most, least)) (cases_lt j i))
      (cases_lt i j)

  again_identified : (place : ℕ) → is_identified (as_object (want place)) ≡ true → is_identified (again place) ≡ true
  again_identified place is = ap (λ (s : Standing). is_identified (as_object s)) (stands_at place) ∙ contested_identified (lost place) (want place).state (want place).identity is

  pub restored_is : IsGraph graph.objects graph.roots → ((place : ℕ) → is_identified (as_object (standing_at start place)) ≡ true) → IsGraph (restored_graph depth frames graph).objects graph.roots
  restored_is is identified = record {
    rooted = is.rooted ∙ sym (restored_long depth frames graph);
    few = omega (arith, is.few, restored_long depth frames graph);
    identified = λ place d less.
        let within : place < length graph.objects = omega (arith, less, restored_long depth frames graph) in
        subst (λ (o : Object). is_identified o ≡ true) (sym (again_at place d within))
        (again_identified place
        (either_stands (λ s. is_identified (as_object s) ≡ true) (nat_lt place (length start.standings)) (standing_at start place) (since (trace_in frames.traces place).loaded (object place).identity) (identified place) (since_identified (trace_in frames.traces place).loaded (object place).identity)));
    one = λ key_root key i j one other. one_again key_root key i j (kept_under key_root key i one) (kept_under key_root key j other);
  }

  -- ---- the scope that is gone back to

  pub fresh_again : (mapped : Mapped) (tables : Tables) → IsSoundScope mapped graph frames depth start tables → (place : ℕ) → place < length graph.objects → IsFresh mapped tables (again place)
  fresh_again mapped tables sound place less =
      back_fresh mapped tables (object place) (want place) (lost place) (is_read place) (λ unread.
      let was = sound.untouched place less (second_false (depth == 1) (nat_le depth (trace_in frames.traces place).depth) unread) in
      (want_is start frames place (object place) was.stands, was.fresh))

  back_settled : (place : ℕ) → (standing_at start place).state ≢ Pending → (back_to (want place) (lost place) (object place)).state ≢ Pending
  back_settled place settled is =
      contested_settled (lost place) (want place).state
      (either_stands (λ s. s.state ≢ Pending) (nat_lt place (length start.standings)) (standing_at start place) (since (trace_in frames.traces place).loaded (object place).identity) settled (since_settled (trace_in frames.traces place).loaded (object place).identity))
      (sym (ap (λ (s : Standing). s.state) (stands_back (object place) (contested_state (lost place) (want place).state) (want place).identity)) ∙ is)

  -- after the transaction's rollback
  pub rest_again : (place : ℕ) → depth ≡ 1 → (standing_at start place).state ≢ Pending → IsAtRest (again place)
  rest_again place first settled =
      let outermost : (depth == 1) ≡ true = grind (arith, nat_tests) in
      let all : is_read place ≡ true = first_true (depth == 1) (nat_le depth (trace_in frames.traces place).depth) outermost in
      subst (λ (b : Bool). IsAtRest (expired_where b (back_to (want place) (lost place) (object place)))) (sym all)
      (rest_read (back_to (want place) (lost place) (object place)) (back_settled place settled) (back_marked (object place) (contested_state (lost place) (want place).state) (want place).identity))

  -- ---- the scopes around it

  want_within : (place : ℕ) → nat_lt place (length start.standings) ≡ true → want place ≡ standing_at start place
  want_within place within = ap (λ (b : Bool). if b then standing_at start place else since (trace_in frames.traces place).loaded (object place).identity) within

  -- an object that stands as at the start loses its identity to none
  loses_none : AreApart graph.roots start → (place : ℕ) (identity : Option (List Value)) → place < length graph.objects → standing_of (object place) ≡ standing_at start place → is_persistent (object place).state ≡ true → (object place).identity ≡ identity → is_lost there place identity ≡ true → ⊥
  loses_none apart place None less stands persists at is = absurd cc
  loses_none apart place (Some key) less stands persists at is =
      let found = below_some (holds_at there.objects graph.roots (root place) key) place is in
      let other : ℕ = found.0 in
      let other_held : holds (root place) key (as_object (want other), root other) ≡ true = sym (there_is (root place) key other (omega (arith, less, found.1))) ∙ found.2 in
      let own_held : holds (root place) key (as_object (standing_at start place), root place) ≡ true =
      ap (λ (s : Standing). holds (root place) key (as_object s, root place)) (sym stands)
      ∙ and_from (is_persistent (object place).state) (((root place).0 == (root place).0) && has_key key (object place).identity) persists
      (and_from ((root place).0 == (root place).0) (has_key key (object place).identity) (eq-eqb (root place).0 (root place).0 refl) (ap (has_key key) at ∙ same_equiv.refl key)) in
      ⊎_elim
      (λ (within : nat_lt other (length start.standings) ≡ true).
      let same : other ≡ place = apart (root place) key other place (ap (λ (s : Standing). holds (root place) key (as_object s, root other)) (sym (want_within other within)) ∙ other_held) own_held in
      absurd (omega (arith, found.1, same)))
      (λ (out : nat_lt other (length start.standings) ≡ false).
      let past : nat_lt place (length start.standings) ≡ false = not_less other place (length start.standings) (omega (arith, found.1)) out in
      let h : true ≡ is_persistent Transient = sym persists ∙ ap (λ (s : Standing). is_persistent s.state) (stands ∙ past_start start place past) in
      absurd cc)
      (cases_Bool (nat_lt other (length start.standings)))

  -- an object that was untouched in an outer scope is as it was
  pub kept_as : (mapped : Mapped) (tables outer : Tables) (first : Standing) → IsSoundScope mapped graph frames depth start tables → (place : ℕ) → place < length graph.objects → is_touched frames depth place ≡ false
      → IsAsAtStart mapped outer first (object place) → IsAsAtStart mapped outer first (again place)
  kept_as mapped tables outer first sound place less untouched as_was =
      let was = sound.untouched place less untouched in
      let wanted : standing_of (object place) ≡ want place = want_is start frames place (object place) was.stands in
      let stays : contested_state (lost place) (want place).state ≡ (want place).state =
      uncontested (lost place) (want place).state (λ persists. not_true (lost place) (λ taken.
      loses_none sound.apart place (want place).identity less was.stands (ap (λ (s : Standing). is_persistent s.state) wanted ∙ persists) (ap (λ (s : Standing). s.identity) wanted) taken)) in
      record {
        stands = stands_at place ∙ ap (λ (state : State). let s : Standing = record { state = state; identity = (want place).identity } in s) stays ∙ sym wanted ∙ as_was.stands;
        unmarked = again_unmarked place;
        fresh = back_fresh mapped outer (object place) (want place) (lost place) (is_read place) (λ unread. (wanted, as_was.fresh));
      }
