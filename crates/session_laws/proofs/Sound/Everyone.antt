-- Where every object changes, one object for each key is left, if none becomes persistent or gets another identity.
use Rattle.std.proofs.Common.{◌≡◌, ℕ, zero, suc, Bool, ◌<◌, true, false, ◌&&◌, List, [], ◌∷◌, length, map, get_or, refl, sym, ap, ◌∙◌, subst, arith}
use Rattle.std.specs.Prelude.{◌==◌, if◌then◌else◌, is_some, not}
use Rattle.std.proofs.lemmas.Bool.{and_from, and_parts}
use Rattle.std.proofs.lemmas.List.{get_or-map, length-map}
use Rattle.base_core.specs.declared.ids.ClassId.{ClassId}
use Rattle.base_core.specs.declared.value.Value.{Value}
use Rattle.object_arena.specs.declared.object.Cell.{Cell}
use Rattle.object_arena.specs.declared.object.Link.{Link}
use Rattle.object_arena.specs.declared.object.Link.TheVariants.{Unloaded}
use Rattle.object_arena.specs.declared.object.Object.{Object}
use Rattle.object_arena.specs.declared.object.State.{State}
use Rattle.object_arena.specs.Every.{each_object}
use Rattle.object_arena.specs.Graph.{Graph, expired_cell, has_identity, is_persistent, no_class_id, no_object}
use Rattle.object_arena.specs.Identity.{IsGraph, has_key, holds, holds_at, is_identified}
use Rattle.object_arena.proofs.GraphLemmas.{held_inside}
use Rattle.session_laws.specs.Sound.{AreUnloaded, EachObject}

-- who is persistent after a change was so before, under the same identity
pub record KeepsHolders (change : Object → Object) : Type 0 where
  pub persists : (o : Object) → is_persistent (change o).state ≡ true → is_persistent o.state ≡ true
  pub identity : (o : Object) → is_persistent (change o).state ≡ true → (change o).identity ≡ o.identity
  pub identified : (o : Object) → is_identified o ≡ true → is_identified (change o) ≡ true

-- the object at a place, changed
pub changed_at : (change : Object → Object) (graph : Graph) (place : ℕ) (d : Object) → place < length graph.objects → get_or (each_object change graph).objects place d ≡ change (get_or graph.objects place no_object)
changed_at change graph place d less = get_or-map change graph.objects place no_object d less

pub each_changed : (P Q : Object → Type 0) (change : Object → Object) (graph : Graph) → EachObject P graph → ((o : Object) → P o → Q (change o)) → EachObject Q (each_object change graph)
each_changed P Q change graph all step place less =
    let within : place < length graph.objects = omega (arith, less, length-map graph.objects change) in
    subst Q (sym (changed_at change graph place no_object within)) (step (get_or graph.objects place no_object) (all place within))

held_before : (change : Object → Object) (o : Object) (root own : ClassId) (key : List Value) → KeepsHolders change → holds root key (change o, own) ≡ true → holds root key (o, own) ≡ true
held_before change o root own key keeps held =
    let parts = and_parts (is_persistent (change o).state) ((own.0 == root.0) && has_key key (change o).identity) held in
    let keyed = and_parts (own.0 == root.0) (has_key key (change o).identity) parts.1 in
    and_from (is_persistent o.state) ((own.0 == root.0) && has_key key o.identity) (keeps.persists o parts.0)
    (and_from (own.0 == root.0) (has_key key o.identity) keyed.0 (ap (has_key key) (sym (keeps.identity o parts.0)) ∙ keyed.1))

held_there : (change : Object → Object) (graph : Graph) (root : ClassId) (key : List Value) (place : ℕ) → KeepsHolders change → holds_at (each_object change graph).objects graph.roots root key place ≡ true → holds_at graph.objects graph.roots root key place ≡ true
held_there change graph root key place keeps held =
    let inside : place < length (each_object change graph).objects = held_inside (each_object change graph).objects graph.roots root key place held in
    let within : place < length graph.objects = omega (arith, inside, length-map graph.objects change) in
    held_before change (get_or graph.objects place no_object) root (get_or graph.roots place no_class_id) key keeps
    (subst (λ (o : Object). holds root key (o, get_or graph.roots place no_class_id) ≡ true) (changed_at change graph place no_object within) held)

pub each_graph : (change : Object → Object) (graph : Graph) → KeepsHolders change → IsGraph graph.objects graph.roots → IsGraph (each_object change graph).objects graph.roots
each_graph change graph keeps is = record {
  rooted = is.rooted ∙ sym (length-map graph.objects change);
  few = omega (arith, is.few, length-map graph.objects change);
  identified = λ place d less.
      let within : place < length graph.objects = omega (arith, less, length-map graph.objects change) in
      subst (λ (o : Object). is_identified o ≡ true) (sym (changed_at change graph place d within)) (keeps.identified (get_or graph.objects place no_object) (is.identified place no_object within));
  one = λ root key i j one other. is.one root key i j (held_there change graph root key i keeps one) (held_there change graph root key j keeps other);
}

-- an object of a state that has an identity has one
pub identified_as : (o : Object) (state : State) → o.state ≡ state → has_identity state ≡ true → is_identified o ≡ true → is_some o.identity ≡ true
identified_as o state is has identified =
    let P : State → Type 0 = λ s. (if has_identity s then is_some o.identity else not (is_some o.identity)) ≡ true in
    let here : (if has_identity state then is_some o.identity else not (is_some o.identity)) ≡ true = subst P is identified in
    subst (λ (b : Bool). (if b then is_some o.identity else not (is_some o.identity)) ≡ true) has here

-- an expired cell stands at each place of an expired object
pub expired_cells : (cells : List Cell) (i : ℕ) → get_or (map (λ cell. expired_cell) cells) i expired_cell ≡ expired_cell
expired_cells [] i = refl
expired_cells (cell ∷ cells) zero = refl
expired_cells (cell ∷ cells) (suc i) = expired_cells cells i

-- and no link of one is loaded
pub unloaded_links : (links : List Link) → AreUnloaded (map (λ link. Unloaded [] []) links)
unloaded_links [] = tt
unloaded_links (link ∷ links) = (refl, unloaded_links links)

-- an object of another state is not persistent
pub not_held : {A : Type 0} (o : Object) (state : State) → is_persistent state ≡ false → o.state ≡ state → is_persistent o.state ≡ true → A
not_held o state free at persists = absurd (let h : false ≡ true = sym free ∙ sym (ap is_persistent at) ∙ persists in cc)
