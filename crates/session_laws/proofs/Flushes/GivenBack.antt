-- The cells and links that objects had before a reading are given back: the objects that there were are as they were then.
use Rattle.std.proofs.Common.{◌≡◌, ℕ, ◌<◌, ◌≤◌, List, length, get_or, Option, None, Some, ⊎_elim, refl, sym, ap, ◌∙◌, subst, arith}
use Rattle.std.specs.Prelude.{slice_get}
use Rattle.std.proofs.lemmas.Bool.{cases_lt}
use Rattle.std.proofs.lemmas.List.{get_or-map, get_or_default, get_or_past, length-map}
use Rattle.std.proofs.lemmas.Option.{slice_get-get_or, slice_get_past}
use Rattle.base_core.specs.declared.ids.ClassId.{ClassId}
use Rattle.base_core.specs.declared.value.Value.{Value}
use Rattle.object_arena.specs.declared.object.Object.{Object}
use Rattle.object_arena.specs.Every.{classes_of}
use Rattle.object_arena.specs.Graph.{Graph, no_class_id, no_object}
use Rattle.object_arena.specs.Identity.{IsGraph, holds, holds_at, is_identified}
use Rattle.object_records.specs.declared.kept.Held.{Held}
use Rattle.object_records.specs.Kept.{given_back, held_by, held_in, holding, nothing_held}
use Rattle.keeper_core.specs.Beside.{by_own}
use Rattle.load_filling.specs.Growing.{Grows}
use Rattle.load_preparing.specs.Preparing.{read_going}
use Rattle.savepoints.proofs.BackLemmas.{each_at, each_long}
use Rattle.session_scopes.proofs.GrownLemmas.{grown_long}
use Rattle.session_scopes.specs.Loads.{on_load}
use Rattle.session_calls.specs.Parts.{World}
use Rattle.session_acts.specs.Flush.{prepare}
use Rattle.session_laws.specs.Flushes.{prepared_world}
use Rattle.session_laws.specs.Loads.{loading_of}
use Rattle.session_laws.specs.Scopes.{object_in}
use Rattle.session_laws.proofs.Flushes.Reading.{IsReadWell}
use Rattle.session_laws.proofs.Health.Fits.{classes_each}

-- Objects that were read, and what is left of them: those that there were before are as they were, and those that were made since are
-- as they are; all have the states and identities that they have.
pub record IsGivenBack (old mid back : Graph) : Type 0 where
  pub grows : Grows old mid
  pub same : classes_of back ≡ classes_of mid
  pub roots : back.roots ≡ mid.roots
  pub long : length back.objects ≡ length mid.objects
  pub rest : (place : ℕ) → place < length mid.objects → object_in back place ≡ record (object_in mid place) { cells = (object_in back place).cells; links = (object_in back place).links }
  pub there : (place : ℕ) → place < length old.objects → object_in back place ≡ object_in old place
  pub since : (place : ℕ) → length old.objects ≤ place → place < length mid.objects → object_in back place ≡ object_in mid place

held_class : (held : Option Held) (o : Object) → (holding held o).class ≡ o.class
held_class None o = refl
held_class (Some held) o = refl

held_rest : (held : Option Held) (o : Object) → holding held o ≡ record o { cells = (holding held o).cells; links = (holding held o).links }
held_rest None o = refl
held_rest (Some held) o = refl

module _ (old mid : Graph) where
  abbrev back : Graph
  back = given_back (held_in old) mid

  abbrev held_at : ℕ → Option Held
  held_at place = slice_get (held_in old) place

  back_at : (place : ℕ) → place < length mid.objects → object_in back place ≡ holding (held_at place) (object_in mid place)
  back_at place less = each_at (λ p o. holding (held_at p) o) mid place no_object no_object less

  back_classes : classes_of back ≡ classes_of mid
  unfolding classes_of
  back_classes = let all = classes_each (λ placed. holding (held_at placed.0) placed.1) mid.objects 0 (λ placed. held_class (held_at placed.0) placed.1) in λ i. (all i, mid.roots)

  held_there : (place : ℕ) → place < length old.objects → held_at place ≡ Some (held_by (object_in old place))
  held_there place less =
      slice_get-get_or (held_in old) place nothing_held (let inside : place < length (held_in old) = omega (arith, less, length-map old.objects held_by) in inside)
      ∙ ap Some (get_or-map held_by old.objects place no_object nothing_held less)

  held_since : (place : ℕ) → length old.objects ≤ place → held_at place ≡ None
  held_since place past = slice_get_past (held_in old) place (let over : length (held_in old) ≤ place = omega (arith, past, length-map old.objects held_by) in over)

  -- where of the objects that there were only cells and links were read
  pub given_objects : Grows old mid → ((place : ℕ) → place < length old.objects → object_in mid place ≡ record (object_in old place) { cells = (object_in mid place).cells; links = (object_in mid place).links }) → IsGivenBack old mid back
  given_objects grows read = record {
    grows = grows;
    same = back_classes;
    roots = refl;
    long = each_long (λ p o. holding (held_at p) o) mid;
    rest = λ place less.
        subst (λ (o : Object). o ≡ record (object_in mid place) { cells = o.cells; links = o.links }) (sym (back_at place less)) (held_rest (held_at place) (object_in mid place));
    there = λ place less.
        back_at place (let inside : place < length mid.objects = omega (arith, less, grown_long old mid grows) in inside)
        ∙ ap (λ (held : Option Held). holding held (object_in mid place)) (held_there place less)
        ∙ ap (λ (o : Object). record o { cells = (object_in old place).cells; links = (object_in old place).links }) (read place less);
    since = λ place past less. back_at place less ∙ ap (λ (held : Option Held). holding held (object_in mid place)) (held_since place past);
  }

-- what the reading before a flush changed is given back
pub given_read : (w : World) → IsReadWell w → IsGivenBack w.own.graph (prepared_world w).own.graph (given_back (held_in w.own.graph) (prepared_world w).own.graph)
unfolding prepare by_own on_load
given_read w well =
    given_objects w.own.graph (read_going w.own.mapping (loading_of w)).after.own.graph well.loads.grows (λ place less. (well.loads.read place less).rest)

-- ---- an arena's objects

module _ (old mid back : Graph) (given : IsGivenBack old mid back) where
  same_identified : (place : ℕ) → place < length mid.objects → is_identified (object_in back place) ≡ is_identified (object_in mid place)
  same_identified place less = ap (λ (o : Object). is_identified o) (given.rest place less)

  -- those that hold a key are the same
  same_holder : (root : ClassId) (key : List Value) (place : ℕ) → holds_at back.objects back.roots root key place ≡ holds_at mid.objects mid.roots root key place
  same_holder root key place =
      ⊎_elim
      (λ (less : place < length mid.objects).
      ap (λ (roots : List ClassId). holds root key (object_in back place, get_or roots place no_class_id)) given.roots
      ∙ ap (λ (o : Object). holds root key (o, get_or mid.roots place no_class_id)) (given.rest place less))
      (λ (past : length mid.objects ≤ place).
      let over : length back.objects ≤ place = omega (arith, past, given.long) in
      ap (λ (roots : List ClassId). holds root key (object_in back place, get_or roots place no_class_id)) given.roots
      ∙ ap (λ (o : Object). holds root key (o, get_or mid.roots place no_class_id)) (get_or_past back.objects place no_object over ∙ sym (get_or_past mid.objects place no_object past)))
      (cases_lt place (length mid.objects))

  pub given_graph : IsGraph mid.objects mid.roots → IsGraph back.objects back.roots
  given_graph is = record {
    rooted = ap length given.roots ∙ is.rooted ∙ sym given.long;
    few = omega (arith, given.long, is.few);
    identified = λ place d less.
        let inside : place < length mid.objects = omega (arith, less, given.long) in
        ap (λ (o : Object). is_identified o) (get_or_default back.objects place d no_object less) ∙ same_identified place inside ∙ is.identified place no_object inside;
    one = λ root key i j one other. is.one root key i j (sym (same_holder root key i) ∙ one) (sym (same_holder root key j) ∙ other);
  }
