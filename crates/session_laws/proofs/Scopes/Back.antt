-- Where each object stands after its scope was restored.
use Rattle.std.proofs.Common.{◌≡◌, inl, inr, ℕ, ◌+◌, ◌<◌, ◌≤◌, Bool, true, false, ◌&&◌, ◌||◌, List, length, map, Option, None, Some, refl, sym, ap, ◌∙◌, ⊎_elim, arith}
use Rattle.std.specs.Prelude.{nat_le, nat_lt, ◌==◌, if◌then◌else◌}
use Rattle.std.proofs.lemmas.Bool.{and_from, cases_Bool, eq-eqb}
use Rattle.std.proofs.lemmas.Bool.Decides.{nat_tests}
use Rattle.std.proofs.lemmas.List.{get_or-map, length-map}
use Rattle.base_core.specs.declared.ids.ClassId.{ClassId}
use Rattle.base_core.specs.declared.value.Value.{Value}
use Rattle.object_arena.specs.declared.object.Object.{Object}
use Rattle.object_arena.specs.declared.object.State.{State}
use Rattle.object_arena.specs.declared.object.State.TheVariants.{Transient, Pending, Persistent, Deleted, Detached}
use Rattle.object_arena.specs.Graph.{Graph, is_persistent, no_object}
use Rattle.object_arena.specs.Identity.{IsGraph, has_key, holds_at}
use Rattle.object_arena.proofs.GraphLemmas.{same_equiv}
use Rattle.savepoints.specs.declared.scope.Standing.{Standing}
use Rattle.savepoints.specs.declared.scope.Scope.{Scope}
use Rattle.savepoints.specs.declared.traces.Trace.{Trace}
use Rattle.savepoints.specs.Scopes.{Framed, all_wanted, begun_at, contested_state, expired_in, expired_where, is_lost, made_since, put_back_all, put_back_to, read_again, restored_graph, scope_at, since, standing_at, standing_of, stood_again, trace_in, wanted_standing}
use Rattle.savepoints.proofs.BackLemmas.{below_some, each_at, each_long, first_ends, stands_back, stands_under}
use Rattle.session_laws.specs.Scopes.{Act, IsLater, IsScope, LesserHolds, MadeSinceGoesBack, Objects, RestoreGivesTheStart, gone_back, inside, left_under, next_depth, object_in, root_in, stands, under}
use Rattle.session_laws.proofs.Scopes.Inside.{later_then_start, scope_then}

expired_stands : (state : State) (object : Object) → standing_of (expired_in state object) ≡ standing_of object
expired_stands Transient object = refl
expired_stands Pending object = refl
expired_stands Persistent object = refl
expired_stands Deleted object = refl
expired_stands Detached object = refl

-- what is to be read again stands as before
pub read_stands : (touched : Bool) (object : Object) → standing_of (expired_where touched object) ≡ standing_of object
read_stands true object = expired_stands object.state object
read_stands false object = refl

-- where an object stands that is to stand so, unless its identity is lost
abbrev ends : Scope → List Trace → Graph → ℕ → Standing → Standing
ends scope traces graph place standing = record { state = contested_state (is_lost (all_wanted scope traces graph) place standing.identity) standing.state; identity = standing.identity }

back_at : (scope : Scope) (traces : List Trace) (graph : Graph) (place : ℕ) → place < length graph.objects → standing_of (object_in (put_back_all scope traces graph) place) ≡ ends scope traces graph place (wanted_standing scope traces place (object_in graph place))
unfolding put_back_all
back_at scope traces graph place less =
    let want : Standing = wanted_standing scope traces place (object_in graph place) in
    ap standing_of (each_at (stood_again scope traces graph) graph place no_object no_object less)
    ∙ stands_back (object_in graph place) (contested_state (is_lost (all_wanted scope traces graph) place want.identity) want.state) want.identity

back_long : (scope : Scope) (traces : List Trace) (graph : Graph) → length (put_back_all scope traces graph).objects ≡ length graph.objects
unfolding put_back_all
back_long scope traces graph = each_long (stood_again scope traces graph) graph

read_at : (depth : ℕ) (frames : Framed) (graph : Graph) (place : ℕ) → place < length graph.objects → standing_of (object_in (restored_graph depth frames graph) place) ≡ standing_of (object_in (put_back_all (scope_at depth frames.scopes) frames.traces graph) place)
unfolding restored_graph
read_at depth frames graph place less =
    let back : Graph = put_back_all (scope_at depth frames.scopes) frames.traces graph in
    ap standing_of (each_at (read_again depth frames.traces) back place no_object no_object (omega (arith, less, back_long (scope_at depth frames.scopes) frames.traces graph)))
    ∙ read_stands (depth == 1 || nat_le depth (trace_in frames.traces place).depth) (object_in back place)

-- ---- who was there at the start

wanted_start : (start : Graph) (traces : List Trace) (place : ℕ) (object : Object) → place < length start.objects → wanted_standing (begun_at start) traces place object ≡ stands start place
wanted_start start traces place object less =
    let count : length (map standing_of start.objects) ≡ length start.objects = length-map start.objects standing_of in
    let there : nat_lt place (length (map standing_of start.objects)) ≡ true = grind (arith, nat_tests) in
    ap (λ (b : Bool). if b then standing_at (begun_at start) place else since (trace_in traces place).loaded object.identity) there
    ∙ get_or-map standing_of start.objects place no_object made_since less

wanted_since : (start : Graph) (traces : List Trace) (place : ℕ) (object : Object) → length start.objects ≤ place → wanted_standing (begun_at start) traces place object ≡ since (trace_in traces place).loaded object.identity
wanted_since start traces place object past =
    let count : length (map standing_of start.objects) ≡ length start.objects = length-map start.objects standing_of in
    let not_there : nat_lt place (length (map standing_of start.objects)) ≡ false = grind (arith, nat_tests) in
    ap (λ (b : Bool). if b then standing_at (begun_at start) place else since (trace_in traces place).loaded object.identity) not_there

-- the objects at the start are to be persistent under what they were persistent under
holds_start : (start graph : Graph) (traces : List Trace) (root : ClassId) (key : List Value) (place : ℕ) → IsLater start graph → place < length start.objects
    → holds_at (all_wanted (begun_at start) traces graph).objects graph.roots root key place ≡ holds_at start.objects start.roots root key place
holds_start start graph traces root key place later less =
    let object : Object = object_in graph place in
    let want : Standing = wanted_standing (begun_at start) traces place object in
    let inside_it : place < length graph.objects = omega (arith, less, later.count) in
    ap (λ (o : Object). stands_under root key (root_in graph place) (standing_of o)) (each_at (λ p o. put_back_to (wanted_standing (begun_at start) traces p o) o) graph place no_object no_object inside_it)
    ∙ ap (stands_under root key (root_in graph place)) (stands_back object want.state want.identity)
    ∙ ap (stands_under root key (root_in graph place)) (wanted_start start traces place object less)
    ∙ ap (λ (r : ClassId). stands_under root key r (stands start place)) (later.roots place less)

-- an object is persistent under its own identity
holds_own : (start : Graph) (place : ℕ) (key : List Value) → is_persistent (object_in start place).state ≡ true → (object_in start place).identity ≡ Some key → holds_at start.objects start.roots (root_in start place) key place ≡ true
holds_own start place key persistent is =
    and_from (is_persistent (object_in start place).state) ((root_in start place).0 == (root_in start place).0 && has_key key (object_in start place).identity) persistent
    (and_from ((root_in start place).0 == (root_in start place).0) (has_key key (object_in start place).identity) (eq-eqb (root_in start place).0 (root_in start place).0 refl)
    (ap (has_key key) is ∙ same_equiv.refl key))

-- none before it takes the identity of an object that was persistent at the start
not_lost : (start graph : Graph) (traces : List Trace) (place : ℕ) (identity : Option (List Value)) → IsGraph start.objects start.roots → IsLater start graph → place < length start.objects → is_persistent (object_in start place).state ≡ true → (object_in start place).identity ≡ identity
    → is_lost (all_wanted (begun_at start) traces graph) place identity ≡ false
not_lost start graph traces place None whole later less persistent is = refl
not_lost start graph traces place (Some key) whole later less persistent is =
    let there : Graph = all_wanted (begun_at start) traces graph in
    ⊎_elim
    (λ (lost : is_lost there place (Some key) ≡ true).
    let found = below_some (holds_at there.objects graph.roots (root_in graph place) key) place lost in
    let other_less : found.0 < length start.objects = omega (arith, found.1, less) in
    let other : holds_at start.objects start.roots (root_in start place) key found.0 ≡ true =
    ap (λ (r : ClassId). holds_at start.objects start.roots r key found.0) (sym (later.roots place less)) ∙ sym (holds_start start graph traces (root_in graph place) key found.0 later other_less) ∙ found.2 in
    let same : found.0 ≡ place = whole.one (root_in start place) key found.0 place other (holds_own start place key persistent is) in
    absurd (omega (arith, found.1, same)))
    (λ (kept : is_lost there place (Some key) ≡ false). kept)
    (cases_Bool (is_lost there place (Some key)))

pub uncontested : (lost : Bool) (state : State) → (is_persistent state ≡ true → lost ≡ false) → contested_state lost state ≡ state
uncontested false state kept = refl
uncontested true Transient kept = refl
uncontested true Pending kept = refl
uncontested true Persistent kept = absurd (let e : true ≡ false = kept refl in cc)
uncontested true Deleted kept = refl
uncontested true Detached kept = refl

ends_start : (start graph : Graph) (traces : List Trace) (place : ℕ) → IsGraph start.objects start.roots → IsLater start graph → place < length start.objects → ends (begun_at start) traces graph place (stands start place) ≡ stands start place
ends_start start graph traces place whole later less =
    ap (λ (state : State). let s : Standing = record { state = state; identity = (object_in start place).identity } in s)
    (uncontested (is_lost (all_wanted (begun_at start) traces graph) place (object_in start place).identity) (object_in start place).state
    (λ persistent. not_lost start graph traces place (object_in start place).identity whole later less persistent refl))

-- where an object stands after all
stands_then : (s : Objects) (acts : List Act) (place : ℕ) → IsScope acts s → place < length (inside acts s).graph.objects
    → stands (gone_back acts s).graph place ≡ ends (begun_at s.graph) (inside acts s).frames.traces (inside acts s).graph place (wanted_standing (begun_at s.graph) (inside acts s).frames.traces place (object_in (inside acts s).graph place))
stands_then s acts place is less =
    let now : Objects = inside acts s in
    read_at (next_depth s) now.frames now.graph place less
    ∙ ap (λ (scope : Scope). standing_of (object_in (put_back_all scope now.frames.traces now.graph) place)) (scope_then s acts is)
    ∙ back_at (begun_at s.graph) now.frames.traces now.graph place less

pub gives_the_start : RestoreGivesTheStart
gives_the_start s acts is place less =
    let now : Objects = inside acts s in
    let later : IsLater s.graph now.graph = later_then_start s acts is in
    stands_then s acts place is (omega (arith, less, later.count))
    ∙ ap (ends (begun_at s.graph) now.frames.traces now.graph place) (wanted_start s.graph now.frames.traces place (object_in now.graph place) less)
    ∙ ends_start s.graph now.graph now.frames.traces place is.graph later less

-- ---- who was made since

-- an object that holds on the way back holds after all
holds_then : (s : Objects) (acts : List Act) (root : ClassId) (key : List Value) (place : ℕ) → IsScope acts s → place < length (inside acts s).graph.objects
    → stands_under root key (root_in (inside acts s).graph place) (standing_of (stood_again (begun_at s.graph) (inside acts s).frames.traces (inside acts s).graph place (object_in (inside acts s).graph place))) ≡ true
    → holds_at (gone_back acts s).graph.objects (gone_back acts s).graph.roots root key place ≡ true
unfolding restored_graph put_back_all
holds_then s acts root key place is less held =
    let now : Objects = inside acts s in
    ap (stands_under root key (root_in now.graph place))
    (read_at (next_depth s) now.frames now.graph place less
    ∙ ap (λ (scope : Scope). standing_of (object_in (put_back_all scope now.frames.traces now.graph) place)) (scope_then s acts is)
    ∙ ap standing_of (each_at (stood_again (begun_at s.graph) now.frames.traces now.graph) now.graph place no_object no_object less))
    ∙ held

lesser_holds : (s : Objects) (acts : List Act) (place : ℕ) (key : List Value) → IsScope acts s → place < length (inside acts s).graph.objects → is_lost (all_wanted (begun_at s.graph) (inside acts s).frames.traces (inside acts s).graph) place (Some key) ≡ true
    → LesserHolds (gone_back acts s).graph place key
unfolding restored_graph put_back_all
lesser_holds s acts place key is less lost =
    let now : Objects = inside acts s in
    let root : ClassId = root_in now.graph place in
    let there : Graph = all_wanted (begun_at s.graph) now.frames.traces now.graph in
    let found = below_some (holds_at there.objects now.graph.roots root key) place lost in
    let first = first_ends (begun_at s.graph) now.frames.traces now.graph (found.0 + 1) root key found.0 (omega arith) (omega (arith, found.1, less)) found.2 in
    (first.0, omega (arith, first.1, found.1), holds_then s acts root key first.0 is (omega (arith, first.1, found.1, less)) first.2)

-- an object without an identity
nobody : (s : Objects) (acts : List Act) (place : ℕ) (loaded : Bool) → ends (begun_at s.graph) (inside acts s).frames.traces (inside acts s).graph place (since loaded None) ≡ made_since
nobody s acts place true = refl
nobody s acts place false = refl

pub goes_back : MadeSinceGoesBack
goes_back s acts is place past less =
    let now : Objects = inside acts s in
    let traces : List Trace = now.frames.traces in
    let object : Object = object_in now.graph place in
    let end = ends (begun_at s.graph) traces now.graph place in
    let is_since : stands (gone_back acts s).graph place ≡ end (since (trace_in traces place).loaded object.identity) =
    stands_then s acts place is less ∙ ap end (wanted_since s.graph traces place object past) in
    record {
      made = λ none. is_since ∙ ap (λ (b : Bool). end (since b object.identity)) none;
      nameless = λ none. is_since ∙ ap (λ (i : Option (List Value)). end (since (trace_in traces place).loaded i)) none ∙ nobody s acts place (trace_in traces place).loaded;
      loaded = λ load key has.
          let wants : stands (gone_back acts s).graph place ≡ end (under key) =
          is_since ∙ ap (λ (b : Bool). end (since b object.identity)) load ∙ ap (λ (i : Option (List Value)). end (since true i)) has in
          ⊎_elim
          (λ (lost : is_lost (all_wanted (begun_at s.graph) traces now.graph) place (Some key) ≡ true).
          let left : stands (gone_back acts s).graph place ≡ left_under key =
          wants ∙ ap (λ (b : Bool). let it : Standing = record { state = contested_state b Persistent; identity = Some key } in it) lost in
          inr (left, lesser_holds s acts place key is less lost))
          (λ (kept : is_lost (all_wanted (begun_at s.graph) traces now.graph) place (Some key) ≡ false).
          let there : stands (gone_back acts s).graph place ≡ under key =
          wants ∙ ap (λ (b : Bool). let it : Standing = record { state = contested_state b Persistent; identity = Some key } in it) kept in
          inl there)
          (cases_Bool (is_lost (all_wanted (begun_at s.graph) traces now.graph) place (Some key)));
    }
