-- Cells and links that are given back, from the last object to the first.
use Rattle.std.proofs.Common.{◌≡◌, ◌≢◌, ℕ, ◌+◌, ◌-◌, ◌<◌, ◌≤◌, List, [], ◌∷◌, ◌++◌, length, map, get_or, take, set, refl, sym, ap, ◌∙◌, subst, ⊎_elim, arith}
use Rattle.std.specs.Prelude.{Option, None, Some, slice_get}
use Rattle.std.specs.List.{All}
use Rattle.std.proofs.lemmas.Bool.{cases_eq, cases_lt}
use Rattle.std.proofs.lemmas.List.{get_or-set_other, get_or-set_same, get_or_append_left, get_or_push, length-append, length-map, length-set, same_lists, take_all}
use Rattle.std.proofs.lemmas.Option.{slice_get-get_or, slice_get_past}
use Rattle.base_core.specs.declared.ids.ObjId.{ObjId}
use Rattle.object_arena.specs.declared.object.Object.{Object}
use Rattle.object_arena.specs.Graph.{Graph, IsObject, no_object, object_at, place_of, with_object}
use Rattle.object_arena.specs.Identity.{id_of_place}
use Rattle.object_arena.proofs.TurnLemmas.{at_with, written_twice}
use Rattle.savepoints.proofs.BackLemmas.{each_at, each_long}
use Rattle.object_records.specs.declared.kept.Held.{Held}
use Rattle.object_records.specs.Kept.{CanHold, CanHoldAll, given_back, held_by, holding, nothing_held}
use Rattle.object_records.proofs.PutSteps.{with_cells, with_links}

-- ---- one object

-- the links come after the cells
pub given_whole : (graph mid new : Graph) (object : ObjId) (held : Held) → IsObject graph object → mid ≡ with_object graph object (with_cells (object_at graph object) held.cells)
    → new ≡ with_object mid object (with_links (object_at mid object) held.links) → new ≡ with_object graph object (holding (Some held) (object_at graph object))
given_whole graph mid new object held made first second = written_twice (λ (o : Object). with_links o held.links) graph mid new object (with_cells (object_at graph object) held.cells) made first second

-- as many links are there when the cells are
pub links_still : (graph mid : Graph) (object : ObjId) (held : Held) → IsObject graph object → CanHold (object_at graph object) held → mid ≡ with_object graph object (with_cells (object_at graph object) held.cells)
    → length held.links ≡ length (object_at mid object).links
links_still graph mid object held made holds write =
    holds.links ∙ sym (ap (λ (o : Object). length o.links) (ap (λ (g : Graph). object_at g object) write ∙ at_with graph object (with_cells (object_at graph object) held.cells) made))

-- ---- the last of those that are left

-- what is kept of an object before the last one
before_last : (held : List Held) (last : Held) (k : ℕ) → k ≢ length held → slice_get held k ≡ slice_get (held ++ last ∷ []) k
before_last held last k other = ⊎_elim before past (cases_lt k (length held))
  where
    long : length (held ++ last ∷ []) ≡ length held + 1
    long = length-append held (last ∷ [])

    before : k < length held → slice_get held k ≡ slice_get (held ++ last ∷ []) k
    before less =
        slice_get-get_or held k last less ∙ ap Some (sym (get_or_append_left held (last ∷ []) last k less))
        ∙ sym (slice_get-get_or (held ++ last ∷ []) k last (omega (arith, less, long)))

    past : length held ≤ k → slice_get held k ≡ slice_get (held ++ last ∷ []) k
    past over = slice_get_past held k over ∙ sym (slice_get_past (held ++ last ∷ []) k (omega (arith, over, other, long)))

at_last : (held : List Held) (last : Held) (k : ℕ) → k ≡ length held → slice_get (held ++ last ∷ []) k ≡ Some last
at_last held last k same =
    let long : length (held ++ last ∷ []) ≡ length held + 1 = length-append held (last ∷ []) in
    slice_get-get_or (held ++ last ∷ []) k last (omega (arith, same, long)) ∙ ap Some (get_or_push held last last k (sym same))

-- the object behind the first ones gets what is kept of it, and nothing else
pub given_last : (held : List Held) (last : Held) (graph new : Graph) (object : ObjId) → object.0 ≡ length held + 1 → length held < length graph.objects
    → new ≡ with_object graph object (holding (Some last) (object_at graph object)) → given_back held new ≡ given_back (held ++ last ∷ []) graph
given_last held last graph new object number less write =
    ap (given_back held) write ∙ ap (λ (os : List Object). record { objects = os; roots = graph.roots }) (same_lists (given_back held then).objects (given_back (held ++ last ∷ []) graph).objects (then_long ∙ sym all_long) each)
  where
    it : Object
    it = holding (Some last) (object_at graph object)

    then : Graph
    then = with_object graph object it

    place : place_of object ≡ length held
    place = omega (arith, number)

    some : List Held → ℕ → Object → Object
    some kept p o = holding (slice_get kept p) o

    put_long : length then.objects ≡ length graph.objects
    put_long = length-set graph.objects (place_of object) it

    then_long : length (given_back held then).objects ≡ length graph.objects
    then_long = each_long (some held) then ∙ put_long

    all_long : length (given_back (held ++ last ∷ []) graph).objects ≡ length graph.objects
    all_long = each_long (some (held ++ last ∷ [])) graph

    here : (k : ℕ) → k < length graph.objects → holding (slice_get held k) (get_or then.objects k no_object) ≡ holding (slice_get (held ++ last ∷ []) k) (get_or graph.objects k no_object)
    here k inside = ⊎_elim the_last another (cases_eq k (length held))
      where
        the_last : k ≡ length held → holding (slice_get held k) (get_or then.objects k no_object) ≡ holding (slice_get (held ++ last ∷ []) k) (get_or graph.objects k no_object)
        the_last same =
            let at : place_of object ≡ k = place ∙ sym same in
            ap (λ (h : Option Held). holding h (get_or then.objects k no_object)) (slice_get_past held k (omega (arith, same)))
            ∙ ap (λ (p : ℕ). get_or then.objects p no_object) (sym at)
            ∙ get_or-set_same graph.objects (place_of object) it no_object (omega (arith, place, less))
            ∙ ap (λ (p : ℕ). holding (Some last) (get_or graph.objects p no_object)) at
            ∙ ap (λ (h : Option Held). holding h (get_or graph.objects k no_object)) (sym (at_last held last k same))

        another : k ≢ length held → holding (slice_get held k) (get_or then.objects k no_object) ≡ holding (slice_get (held ++ last ∷ []) k) (get_or graph.objects k no_object)
        another other =
            ap (λ (h : Option Held). holding h (get_or then.objects k no_object)) (before_last held last k other)
            ∙ ap (holding (slice_get (held ++ last ∷ []) k)) (get_or-set_other graph.objects (place_of object) k it no_object (λ e. other (e ∙ place)))

    each : (k : ℕ) (d : Object) → k < length (given_back held then).objects → get_or (given_back held then).objects k d ≡ get_or (given_back (held ++ last ∷ []) graph).objects k d
    each k d within =
        let inside : k < length graph.objects = omega (arith, within, then_long) in
        each_at (some held) then k d no_object (omega (arith, inside, put_long)) ∙ here k inside ∙ sym (each_at (some (held ++ last ∷ [])) graph k d no_object inside)

-- the last one can be given
pub last_holds : (held : List Held) (last : Held) (graph : Graph) (object : ObjId) → object.0 ≡ length held + 1 → CanHoldAll (held ++ last ∷ []) graph → CanHold (object_at graph object) last
last_holds held last graph object number can =
    let place : place_of object ≡ length held = omega (arith, number) in
    let long : length (held ++ last ∷ []) ≡ length held + 1 = length-append held (last ∷ []) in
    subst (λ (p : ℕ). CanHold (get_or graph.objects p no_object) last) (sym place)
    (subst (CanHold (get_or graph.objects (length held) no_object)) (get_or_push held last nothing_held (length held) refl) (can.each (length held) (omega (arith, long))))

-- and then those before it still can
pub rest_hold : (held : List Held) (last : Held) (graph new : Graph) (object : ObjId) (it : Object) → object.0 ≡ length held + 1 → new ≡ with_object graph object it → CanHoldAll (held ++ last ∷ []) graph → CanHoldAll held new
rest_hold held last graph new object it number write can =
    let long : length (held ++ last ∷ []) ≡ length held + 1 = length-append held (last ∷ []) in
    let same : length new.objects ≡ length graph.objects = ap (λ (g : Graph). length g.objects) write ∙ length-set graph.objects (place_of object) it in
    let within : length (held ++ last ∷ []) ≤ length graph.objects = can.long in record {
      long = omega (arith, long, same, within);
      each = λ place less.
          let before : get_or (held ++ last ∷ []) place nothing_held ≡ get_or held place nothing_held = get_or_append_left held (last ∷ []) nothing_held place less in
          let there : get_or new.objects place no_object ≡ get_or graph.objects place no_object =
          ap (λ (g : Graph). get_or g.objects place no_object) write ∙ get_or-set_other graph.objects (place_of object) place it no_object (λ e. omega (arith, number, e, less)) in
          subst (λ (o : Object). CanHold o (get_or held place nothing_held)) (sym there)
          (subst (CanHold (get_or graph.objects place no_object)) before (can.each place (omega (arith, long, less))));
    }

-- ---- none is left

pub given_none : (held : List Held) (graph : Graph) → length held ≡ 0 → given_back held graph ≡ graph
given_none [] graph none =
    ap (λ (os : List Object). record { objects = os; roots = graph.roots })
    (same_lists (given_back [] graph).objects graph.objects (each_long some graph) (λ k d within. each_at some graph k d d (omega (arith, within, each_long some graph)) ∙ ap (λ (h : Option Held). holding h (get_or graph.objects k d)) (slice_get_past empty k (omega arith))))
  where
    empty : List Held
    empty = []

    some : ℕ → Object → Object
    some p o = holding (slice_get empty p) o
given_none (one ∷ held) graph none = absurd (omega (arith, none))
