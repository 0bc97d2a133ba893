-- The keys that objects had at the start of a scope.
use Rattle.std.proofs.Common.{◌≡◌, ℕ, ◌+◌, ◌-◌, ◌<◌, ◌≤◌, true, List, [], ◌∷◌, ◌++◌, length, map, drop, get_or, refl, sym, ap, ◌∙◌, subst, ⊎_elim, arith}
use Rattle.std.specs.Prelude.{Option, None, Some, is_some, not, false, if◌then◌else◌}
use Rattle.std.specs.List.{All}
use Rattle.std.proofs.lemmas.Bool.{cases_lt}
use Rattle.std.proofs.lemmas.List.{get_or-map, get_or_append_left, get_or_past, length-append, length-map}
use Rattle.std.proofs.lemmas.List.Elements.{All-drop, All-map, All-nil}
use Rattle.base_core.specs.declared.ids.ClassId.{ClassId}
use Rattle.base_core.specs.declared.value.Value.{Value}
use Rattle.class_mapping.specs.Mapped.{Mapped}
use Rattle.object_arena.specs.declared.object.Object.{Object}
use Rattle.object_arena.specs.declared.object.State.{State}
use Rattle.object_arena.specs.declared.object.State.TheVariants.{Transient, Pending, Persistent, Deleted, Detached}
use Rattle.object_arena.specs.Graph.{Graph, fresh_object, has_identity, no_class_id, no_object, with_fresh}
use Rattle.object_arena.specs.Identity.{IsGraph, is_identified}
use Rattle.object_arena.specs.Fit.{IsFit, identity_fits}
use Rattle.object_arena.specs.Every.{classes_of}
use Rattle.object_arena.proofs.ClassLemmas.{classes_long}
use Rattle.savepoints.specs.declared.scope.Standing.{Standing}
use Rattle.savepoints.specs.declared.scope.Scope.{Scope}
use Rattle.savepoints.specs.Scopes.{HasKeys, IsStanding, begun_at, made_since, no_scope, scope_at, standing_at, standing_of}

pub class_at : (old new : Graph) (i : ℕ) → classes_of new ≡ classes_of old → i < length old.objects → (get_or new.objects i no_object).class ≡ (get_or old.objects i no_object).class
unfolding classes_of
class_at old new i same less =
    let long : i < length new.objects = rw (classes_long old new same) less in
    sym (get_or-map (λ (o : Object). o.class) new.objects i no_object no_class_id long)
    ∙ ap (λ (classes : List ClassId × List ClassId). get_or classes.0 i no_class_id) same
    ∙ get_or-map (λ (o : Object). o.class) old.objects i no_object no_class_id less

-- ---- a scope that begins

stood_at : (graph : Graph) (i : ℕ) → i < length graph.objects → standing_at (begun_at graph) i ≡ standing_of (get_or graph.objects i no_object)
stood_at graph i less = get_or-map (λ object. standing_of object) graph.objects i no_object made_since less

pub keys_begun : (mapped : Mapped) (graph : Graph) → IsFit mapped graph → HasKeys mapped graph (begun_at graph)
keys_begun mapped graph fit = record {
  few = let long : length (map (λ object. standing_of object) graph.objects) ≡ length graph.objects = length-map graph.objects (λ object. standing_of object) in omega (arith, long);
  keys = λ place less. rw (stood_at graph place less) (fit.objects place no_object less).identity;
}

told : (state : State) (identity : Option (List Value)) → (if has_identity state then is_some identity else not (is_some identity)) ≡ true → has_identity state ≡ is_some identity
told Transient None h = refl
told Transient (Some key) h = absurd cc
told Pending None h = refl
told Pending (Some key) h = absurd cc
told Persistent None h = absurd cc
told Persistent (Some key) h = refl
told Deleted None h = absurd cc
told Deleted (Some key) h = refl
told Detached None h = absurd cc
told Detached (Some key) h = refl

pub sound_begun : (graph : Graph) → IsGraph graph.objects graph.roots → All IsStanding (begun_at graph).standings
sound_begun graph whole = All-map IsStanding (λ object. standing_of object) graph.objects (λ k d less. told (get_or graph.objects k d).state (get_or graph.objects k d).identity (whole.identified k d less))

-- ---- objects that change, each in its class

pub keys_kept : (mapped : Mapped) (old new : Graph) (scope : Scope) → classes_of new ≡ classes_of old → HasKeys mapped old scope → HasKeys mapped new scope
keys_kept mapped old new scope same has = record {
  few = rw (classes_long old new same) has.few;
  keys = λ place less.
      let inside : place < length old.objects = omega (arith, classes_long old new same, less) in
      ap (λ (class : ClassId). identity_fits mapped class (standing_at scope place).identity) (class_at old new place same inside) ∙ has.keys place inside;
}

-- the key that an object had, on the way back
pub key_then : (mapped : Mapped) (old now : Graph) (scope left : Scope) (i p : ℕ) → p ≡ i → i < length old.objects → classes_of now ≡ classes_of old → standing_at left i ≡ standing_at scope i → HasKeys mapped old scope
    → identity_fits mapped (get_or now.objects p no_object).class (standing_at left p).identity ≡ true
key_then mapped old now scope left i p place less same stands has =
    ap (λ (k : ℕ). identity_fits mapped (get_or now.objects k no_object).class (standing_at left k).identity) place
    ∙ ap (λ (s : Standing). identity_fits mapped (get_or now.objects i no_object).class s.identity) stands
    ∙ ap (λ (class : ClassId). identity_fits mapped class (standing_at scope i).identity) (class_at old now i same less)
    ∙ has.keys i less

-- ---- an object that is made

pub keys_made : (mapped : Mapped) (old new : Graph) (class : ClassId) (scope : Scope) → new ≡ with_fresh old mapped class → HasKeys mapped old scope → HasKeys mapped new scope
keys_made mapped old new class scope is has =
    let fresh : Object = fresh_object mapped class in
    subst (λ (g : Graph). HasKeys mapped g scope) (sym is)
    (record {
      few = rw (length-append old.objects (fresh ∷ [])) (omega (arith, has.few));
      keys = λ place less.
          ⊎_elim
          (λ (inside : place < length old.objects).
          ap (λ (o : Object). identity_fits mapped o.class (standing_at scope place).identity) (get_or_append_left old.objects (fresh ∷ []) no_object place inside) ∙ has.keys place inside)
          (λ (past : length old.objects ≤ place).
          let since : standing_at scope place ≡ made_since = get_or_past scope.standings place made_since (omega (arith, has.few, past)) in
          rw since refl)
          (cases_lt place (length old.objects));
    })

-- ---- all scopes

pub all_kept : (mapped : Mapped) (old new : Graph) (scopes : List Scope) → classes_of new ≡ classes_of old → All (HasKeys mapped old) scopes → All (HasKeys mapped new) scopes
all_kept mapped old new scopes same all = λ k d less. keys_kept mapped old new (get_or scopes k d) same (all k d less)

pub all_made : (mapped : Mapped) (old new : Graph) (class : ClassId) (scopes : List Scope) → new ≡ with_fresh old mapped class → All (HasKeys mapped old) scopes → All (HasKeys mapped new) scopes
all_made mapped old new class scopes is all = λ k d less. keys_made mapped old new class (get_or scopes k d) is (all k d less)

-- the scope at a depth
pub keys_at : (mapped : Mapped) (graph : Graph) (depth : ℕ) (scopes : List Scope) → 1 ≤ depth → depth ≤ length scopes → All (HasKeys mapped graph) scopes → HasKeys mapped graph (scope_at depth scopes)
keys_at mapped graph depth scopes above within all = all (length scopes - depth) no_scope (omega arith)

-- the scopes that are left
pub keys_left : (mapped : Mapped) (graph : Graph) (n : ℕ) (scopes left : List Scope) → left ≡ drop n scopes → All (HasKeys mapped graph) scopes → All (HasKeys mapped graph) left
keys_left mapped graph n scopes left is all = rw is (All-drop (HasKeys mapped graph) n scopes all)
