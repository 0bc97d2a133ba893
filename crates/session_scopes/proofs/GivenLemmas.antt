-- Cells and links that are given back to objects that have their classes still.
use Rattle.std.proofs.Common.{◌≡◌, ℕ, ◌+◌, ◌-◌, ◌<◌, ◌≤◌, true, zero, suc, List, [], ◌∷◌, ◌++◌, length, map, drop, take, get_or, Option, None, Some, Result, Ok, Err, IfOk, refl, sym, ap, ◌∙◌, subst, append_assoc, ⊎_elim, arith}
use Rattle.std.specs.Prelude.{slice_get}
use Rattle.std.specs.List.{All}
use Rattle.std.specs.Cmp.Lexicographic.{pointwise}
use Rattle.std.proofs.lemmas.Bool.{cases_lt}
use Rattle.std.proofs.lemmas.List.{append-nil, get_or-map, get_or-take, length-map, length-take, same_lists, take-append-drop}
use Rattle.std.proofs.lemmas.Option.{slice_get-get_or, slice_get_past}
use Rattle.base_core.specs.declared.ids.ClassId.{ClassId}
use Rattle.class_mapping.specs.Mapped.{Mapped, attributes_of, relations_of, root_of}
use Rattle.object_arena.specs.declared.object.Object.{Object}
use Rattle.object_arena.specs.Fit.{IsFit, ObjectFits, cell_fits, links_fit}
use Rattle.object_arena.specs.Graph.{Graph, no_object, object_at}
use Rattle.object_arena.specs.Identity.{id_of_place}
use Rattle.object_arena.proofs.FitLemmas.{fit_cells}
use Rattle.object_arena.proofs.LinkLemmas.{links_grown}
use Rattle.savepoints.proofs.BackLemmas.{each_at, each_long}
use Rattle.object_records.specs.declared.kept.Held.{Held}
use Rattle.object_records.specs.Kept.{CanHold, CanHoldAll, IsNarrow, given_back, held_by, held_in, holding, nothing_held}
use Rattle.session_scopes.specs.Keeping.{IsKeptOf}
use Rattle.session_scopes.specs.SessionState.{IsMadeOf}

-- ---- what is kept

pub kept_of : {E : Type 0} (mapped : Mapped) (graph : Graph) (r : Result (List Held) E) → IsFit mapped graph → IfOk r (λ kept. kept ≡ held_in graph) → IfOk r (All IsNarrow) → IfOk r (λ kept. IsKeptOf mapped kept graph)
kept_of mapped graph (Ok kept) fit held narrow = record { before = graph; held = held; fit = fit; there = λ object made. (made, refl); narrow = narrow }
kept_of mapped graph (Err e) fit held narrow = tt

-- ---- roots

-- links that fit go on to fit where more objects were made
links_longer : (mapped : Mapped) (roots more : List ClassId) (object : Object) → links_fit mapped roots object ≡ true → links_fit mapped (roots ++ more) object ≡ true
links_longer mapped roots [] object fits = subst (λ (rs : List ClassId). links_fit mapped rs object ≡ true) (sym (append-nil roots)) fits
links_longer mapped roots (root ∷ more) object fits =
    subst (λ (rs : List ClassId). links_fit mapped rs object ≡ true) (append_assoc roots (root ∷ []) more) (links_longer mapped (roots ++ root ∷ []) more object (links_grown mapped roots root object fits))

-- ---- each object

module _ (mapped : Mapped) (kept : List Held) (graph : Graph) (is : IsKeptOf mapped kept graph) where
  kept_long : length kept ≡ length is.before.objects
  kept_long = ap (λ (ks : List Held). length ks) is.held ∙ length-map is.before.objects held_by

  longer : length is.before.objects ≤ length graph.objects
  longer = by (length is.before.objects) refl
    where
      -- the last object is there still
      by : (n : ℕ) → length is.before.objects ≡ n → length is.before.objects ≤ length graph.objects
      by zero none = omega (arith, none)
      by (suc n) last = let there : IsMadeOf graph (id_of_place n) (object_at is.before (id_of_place n)).class = is.there (id_of_place n) (omega arith, omega (arith, last)) in omega (arith, last, there.0.1)

  kept_at : (k : ℕ) → k < length kept → get_or kept k nothing_held ≡ held_by (get_or is.before.objects k no_object)
  kept_at k less = ap (λ (ks : List Held). get_or ks k nothing_held) is.held ∙ get_or-map held_by is.before.objects k no_object nothing_held (omega (arith, less, kept_long))

  same_class : (k : ℕ) → k < length kept → (get_or graph.objects k no_object).class ≡ (get_or is.before.objects k no_object).class
  same_class k less =
      let place : k + 1 - 1 ≡ k = omega arith in
      let there : IsMadeOf graph (id_of_place k) (object_at is.before (id_of_place k)).class = is.there (id_of_place k) (omega arith, omega (arith, less, kept_long)) in
      subst (λ (p : ℕ). (get_or graph.objects p no_object).class ≡ (get_or is.before.objects p no_object).class) place there.1

  -- as many cells and links
  pub can_hold : IsFit mapped graph → CanHoldAll kept graph
  can_hold fit = record {
    long = omega (arith, kept_long, longer);
    each = λ place less. subst (CanHold (get_or graph.objects place no_object)) (sym (kept_at place less)) (at place less);
  }
    where
      cells : (k : ℕ) → k < length kept → length (get_or is.before.objects k no_object).cells ≡ length (get_or graph.objects k no_object).cells
      cells k less =
          let place : k + 1 - 1 ≡ k = omega arith in
          let was = subst (λ (p : ℕ). length (attributes_of mapped (get_or is.before.objects p no_object).class) ≡ length (get_or is.before.objects p no_object).cells) place (fit_cells mapped is.before (id_of_place k) is.fit (omega arith, omega (arith, less, kept_long))) in
          let now = subst (λ (p : ℕ). length (attributes_of mapped (get_or graph.objects p no_object).class) ≡ length (get_or graph.objects p no_object).cells) place (fit_cells mapped graph (id_of_place k) fit (omega arith, omega (arith, less, kept_long, longer))) in
          sym was ∙ sym (ap (λ (class : ClassId). length (attributes_of mapped class)) (same_class k less)) ∙ now

      links : (k : ℕ) → k < length kept → length (get_or is.before.objects k no_object).links ≡ length (get_or graph.objects k no_object).links
      links k less =
          (is.fit.objects k no_object (omega (arith, less, kept_long))).links ∙ sym (ap (λ (class : ClassId). length (relations_of mapped class)) (same_class k less))
          ∙ sym (fit.objects k no_object (omega (arith, less, kept_long, longer))).links

      at : (k : ℕ) → k < length kept → CanHold (get_or graph.objects k no_object) (held_by (get_or is.before.objects k no_object))
      at k less = record { cells = cells k less; links = links k less; narrow = subst IsNarrow (kept_at k less) (is.narrow k nothing_held less) }

  -- ---- they fit

  abbrev some : ℕ → Object → Object
  some place object = holding (slice_get kept place) object

  -- an object that there was has its own cells and links again, and one that was made since is as it was
  given_there : (k : ℕ) → k < length kept → holding (slice_get kept k) (get_or graph.objects k no_object) ≡ record (get_or graph.objects k no_object) { cells = (get_or is.before.objects k no_object).cells; links = (get_or is.before.objects k no_object).links }
  given_there k less = ap (λ (h : Option Held). holding h (get_or graph.objects k no_object)) (slice_get-get_or kept k nothing_held less ∙ ap Some (kept_at k less))

  given_since : (k : ℕ) → length kept ≤ k → holding (slice_get kept k) (get_or graph.objects k no_object) ≡ get_or graph.objects k no_object
  given_since k past = ap (λ (h : Option Held). holding h (get_or graph.objects k no_object)) (slice_get_past kept k past)

  object_fits : IsFit mapped graph → (k : ℕ) → k < length graph.objects → ObjectFits mapped (holding (slice_get kept k) (get_or graph.objects k no_object))
  object_fits fit k inside =
      ⊎_elim
      (λ (less : k < length kept).
      let was : ObjectFits mapped (get_or is.before.objects k no_object) = is.fit.objects k no_object (omega (arith, less, kept_long)) in
      let class = same_class k less in
      subst (ObjectFits mapped) (sym (given_there k less))
      (record {
        class = own.class;
        cells = subst (λ (c : ClassId). pointwise cell_fits (attributes_of mapped c) (get_or is.before.objects k no_object).cells ≡ true) (sym class) was.cells;
        identity = own.identity;
        links = was.links ∙ ap (λ (c : ClassId). length (relations_of mapped c)) (sym class);
      }))
      (λ (past : length kept ≤ k). subst (ObjectFits mapped) (sym (given_since k past)) own)
      (cases_lt k (length kept))
    where
      own : ObjectFits mapped (get_or graph.objects k no_object)
      own = fit.objects k no_object inside

  -- the roots that there were come first
  rooted : IsFit mapped graph → graph.roots ≡ is.before.roots ++ drop (length is.before.roots) graph.roots
  rooted fit = sym (take-append-drop n graph.roots) ∙ ap (λ (rs : List ClassId). rs ++ drop n graph.roots) (same_lists (take n graph.roots) is.before.roots (length-take n graph.roots ∙ omega (arith, rooted_long, before_long, longer)) each)
    where
      n : ℕ
      n = length is.before.roots

      root : Object → ClassId
      root o = root_of mapped o.class

      before_long : length is.before.roots ≡ length is.before.objects
      before_long = ap (λ (rs : List ClassId). length rs) is.fit.roots ∙ length-map is.before.objects root

      rooted_long : length graph.roots ≡ length graph.objects
      rooted_long = ap (λ (rs : List ClassId). length rs) fit.roots ∙ length-map graph.objects root

      each : (k : ℕ) (d : ClassId) → k < length (take n graph.roots) → get_or (take n graph.roots) k d ≡ get_or is.before.roots k d
      each k d within =
          let less : k < n = omega (arith, within, length-take n graph.roots) in
          let held : k < length kept = omega (arith, less, before_long, kept_long) in
          get_or-take n graph.roots k d less
          ∙ ap (λ (rs : List ClassId). get_or rs k d) fit.roots
          ∙ get_or-map root graph.objects k no_object d (omega (arith, less, before_long, longer))
          ∙ ap (root_of mapped) (same_class k held)
          ∙ sym (get_or-map root is.before.objects k no_object d (omega (arith, less, before_long)))
          ∙ ap (λ (rs : List ClassId). get_or rs k d) (sym is.fit.roots)

  links_still : IsFit mapped graph → (k : ℕ) → k < length graph.objects → links_fit mapped graph.roots (holding (slice_get kept k) (get_or graph.objects k no_object)) ≡ true
  links_still fit k inside =
      ⊎_elim
      (λ (less : k < length kept).
      let was : Object = get_or is.before.objects k no_object in
      let it : Object = get_or graph.objects k no_object in
      let class : ClassId → Object = λ c. record it { class = c; cells = was.cells; links = was.links } in
      ap (links_fit mapped graph.roots) (given_there k less)
      ∙ ap (λ (c : ClassId). links_fit mapped graph.roots (class c)) (same_class k less)
      ∙ ap (λ (rs : List ClassId). links_fit mapped rs (class was.class)) (rooted fit)
      ∙ links_longer mapped is.before.roots (drop (length is.before.roots) graph.roots) (class was.class) (is.fit.links k no_object (omega (arith, less, kept_long))))
      (λ (past : length kept ≤ k). ap (links_fit mapped graph.roots) (given_since k past) ∙ fit.links k no_object inside)
      (cases_lt k (length kept))

  all_long : length (given_back kept graph).objects ≡ length graph.objects
  all_long = each_long some graph

  classes : map (λ (o : Object). root_of mapped o.class) (given_back kept graph).objects ≡ map (λ (o : Object). root_of mapped o.class) graph.objects
  classes =
      same_lists (map root (given_back kept graph).objects) (map root graph.objects) (length-map (given_back kept graph).objects root ∙ all_long ∙ sym (length-map graph.objects root))
      (λ k d within.
      let inside : k < length graph.objects = omega (arith, within, length-map (given_back kept graph).objects root, all_long) in
      get_or-map root (given_back kept graph).objects k no_object d (omega (arith, inside, all_long))
      ∙ ap root (each_at some graph k no_object no_object inside)
      ∙ ap (root_of mapped) (held_class (slice_get kept k) (get_or graph.objects k no_object))
      ∙ sym (get_or-map root graph.objects k no_object d inside))
    where
      root : Object → ClassId
      root o = root_of mapped o.class

      held_class : (h : Option Held) (o : Object) → (holding h o).class ≡ o.class
      held_class None o = refl
      held_class (Some held) o = refl

  pub given_fit : (new : Graph) → new ≡ given_back kept graph → IsFit mapped graph → IsFit mapped new
  given_fit new write fit =
      subst (IsFit mapped) (sym write)
      (record {
        objects = λ k d within.
            let inside : k < length graph.objects = omega (arith, within, all_long) in
            subst (ObjectFits mapped) (sym (each_at some graph k d no_object inside)) (object_fits fit k inside);
        roots = fit.roots ∙ sym classes;
        links = λ k d within.
            let inside : k < length graph.objects = omega (arith, within, all_long) in
            ap (links_fit mapped graph.roots) (each_at some graph k d no_object inside) ∙ links_still fit k inside;
      })
