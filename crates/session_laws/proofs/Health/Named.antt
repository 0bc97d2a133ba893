-- What had an identity at the start of a scope has one still.
use Rattle.std.proofs.Common.{◌≡◌, ◌≢◌, ℕ, ◌<◌, ◌≤◌, zero, suc, Bool, true, List, [], ◌∷◌, drop, get_or, length, ⊎_elim, refl, sym, ap, ◌∙◌, subst, arith}
use Rattle.std.proofs.lemmas.Bool.{cases_eq, cases_lt}
use Rattle.std.proofs.lemmas.List.{get_or-set_other, get_or-set_same, get_or_past, length-set}
use Rattle.base_core.specs.declared.ids.ObjId.{ObjId}
use Rattle.object_arena.specs.declared.object.Object.{Object}
use Rattle.object_arena.specs.Graph.{Graph, no_object, object_at, place_of, with_object}
use Rattle.savepoints.specs.declared.scope.Scope.{Scope}
use Rattle.savepoints.specs.Scopes.{begun_at, no_scope}
use Rattle.session_laws.specs.Sound.{EachObject}
use Rattle.session_laws.proofs.Sound.Beginning.{started_at}
use Rattle.session_laws.specs.Health.Health.{AreNamedSince, is_named, is_named_in, stands_named, was_named}
use Rattle.session_laws.proofs.Health.Objects.{never_true}

-- ---- scope by scope

pub named_more : (now later : ℕ → Bool) (scopes : List Scope) → ((place : ℕ) → now place ≡ true → later place ≡ true) → AreNamedSince now scopes → AreNamedSince later scopes
named_more now later [] wider named = tt
named_more now later (scope ∷ scopes) wider named = (λ place is. wider place (named.0 place is), named.1)

pub named_left : (now : ℕ → Bool) (scopes : List Scope) (n : ℕ) → AreNamedSince now scopes → AreNamedSince now (drop n scopes)
named_left now scopes zero named = named
named_left now [] (suc n) named = tt
named_left now (scope ∷ scopes) (suc n) named = named_left now scopes n (named_more (was_named scope) now scopes named.0 named.1)

-- at the start of one of the scopes
pub named_at : (now : ℕ → Bool) (scopes : List Scope) (n place : ℕ) → AreNamedSince now scopes → was_named (get_or scopes n no_scope) place ≡ true → now place ≡ true
named_at now [] n place named is = absurd cc
named_at now (scope ∷ scopes) zero place named is = named.0 place is
named_at now (scope ∷ scopes) (suc n) place named is = named.0 place (named_at (was_named scope) scopes n place named.1 is)

-- from the start of one of the scopes on, for those around it
pub named_from : (now : ℕ → Bool) (scopes : List Scope) (n k : ℕ) → n ≤ k → AreNamedSince now scopes → AreNamedSince (was_named (get_or scopes n no_scope)) (drop k scopes)
named_from now [] n zero least named = tt
named_from now [] n (suc k) least named = tt
named_from now (scope ∷ scopes) zero zero least named = (λ place is. is, named.1)
named_from now (scope ∷ scopes) zero (suc k) least named = named_left (was_named scope) scopes k named.1
named_from now (scope ∷ scopes) (suc n) zero least named = absurd (omega (arith, least))
named_from now (scope ∷ scopes) (suc n) (suc k) least named = named_from (was_named scope) scopes n k (omega (arith, least)) named.1

-- ---- objects that change

pub named_inside : (graph : Graph) (place : ℕ) → is_named_in graph place ≡ true → place < length graph.objects
named_inside graph place is =
    ⊎_elim
    (λ (inside : place < length graph.objects). inside)
    (λ (past : length graph.objects ≤ place).
    never_true (is_named_in graph place) (ap (λ (o : Object). is_named o.state o.identity) (get_or_past graph.objects place no_object past)) is)
    (cases_lt place (length graph.objects))

-- each object as its place says
pub named_each : (graph new : Graph) (change : ℕ → Object → Object) → ((place : ℕ) → place < length graph.objects → get_or new.objects place no_object ≡ change place (get_or graph.objects place no_object))
    → ((place : ℕ) (o : Object) → o ≡ get_or graph.objects place no_object → is_named o.state o.identity ≡ true → is_named (change place o).state (change place o).identity ≡ true) → (place : ℕ) → is_named_in graph place ≡ true → is_named_in new place ≡ true
named_each graph new change at stays place is =
    ap (λ (o : Object). is_named o.state o.identity) (at place (named_inside graph place is)) ∙ stays place (get_or graph.objects place no_object) refl is

-- what holds of each object, and of the record that is put in
pub each_with : (P : Object → Type 0) (graph : Graph) (object : ObjId) (new : Object) → EachObject P graph → (place_of object < length graph.objects → P new) → EachObject P (with_object graph object new)
each_with P graph object new all one place less =
    let within : place < length graph.objects = omega (arith, less, length-set graph.objects (place_of object) new) in
    ⊎_elim
    (λ (same : place ≡ place_of object).
    let inside : place_of object < length graph.objects = omega (arith, within, same) in
    subst P (sym (ap (λ (n : ℕ). get_or (with_object graph object new).objects n no_object) same ∙ get_or-set_same graph.objects (place_of object) new no_object inside)) (one inside))
    (λ (apart : place ≢ place_of object). subst P (sym (get_or-set_other graph.objects (place_of object) place new no_object apart)) (all place within))
    (cases_eq place (place_of object))

pub named_with : (graph : Graph) (object : ObjId) (new : Object) → (is_named (object_at graph object).state (object_at graph object).identity ≡ true → is_named new.state new.identity ≡ true) → (place : ℕ) → is_named_in graph place ≡ true → is_named_in (with_object graph object new) place ≡ true
named_with graph object new stays place is =
    let within : place < length graph.objects = named_inside graph place is in
    ⊎_elim
    (λ (same : place ≡ place_of object).
    ap (λ (n : ℕ). is_named_in (with_object graph object new) n) same
    ∙ ap (λ (o : Object). is_named o.state o.identity) (get_or-set_same graph.objects (place_of object) new no_object (omega (arith, within, same)))
    ∙ stays (sym (ap (is_named_in graph) same) ∙ is))
    (λ (apart : place ≢ place_of object). ap (λ (o : Object). is_named o.state o.identity) (get_or-set_other graph.objects (place_of object) place new no_object apart) ∙ is)
    (cases_eq place (place_of object))

-- ---- a scope begins

pub begun_named : (graph : Graph) (scopes : List Scope) → AreNamedSince (is_named_in graph) scopes → AreNamedSince (is_named_in graph) (begun_at graph ∷ scopes)
begun_named graph scopes named = (
  λ place is. sym (ap stands_named (started_at graph place)) ∙ is,
  named_more (is_named_in graph) (was_named (begun_at graph)) scopes (λ place is. ap stands_named (started_at graph place) ∙ is) named,
)
