-- Rows that are taken leave objects that fit the mapping.
use Rattle.std.proofs.Common.{◌≡◌, ℕ, suc, ◌+◌, ◌-◌, ◌<◌, nat_lt, Bool, true, false, List, [], ◌∷◌, ◌++◌, length, get_or, map, Option, None, Some, Result, Ok, Err, if◌then◌else◌, is_none, refl, sym, ap, subst, ◌∙◌, arith}
use Rattle.std.specs.Prelude.{slice_get}
use Rattle.std.specs.Cmp.Lexicographic.{pointwise}
use Rattle.std.specs.List.{enumerate_from}
use Rattle.std.proofs.Math.Seq.{get_or-append_seam, map-set_same}
use Rattle.std.proofs.lemmas.Bool.{and_from, and_parts}
use Rattle.std.proofs.lemmas.List.{length-append, length-set}
use Rattle.std.proofs.lemmas.List.Elements.{All-set}
use Rattle.std.proofs.lemmas.Option.{get_or_from_slice_get}
use Rattle.base_core.specs.declared.ids.AttrNo.{AttrNo}
use Rattle.base_core.specs.declared.ids.ClassId.{ClassId}
use Rattle.base_core.specs.declared.ids.ObjId.{ObjId}
use Rattle.base_core.specs.declared.refusal.LimitKind.TheVariants.{Objects}
use Rattle.base_core.specs.declared.refusal.Refusal.{Refusal}
use Rattle.base_core.specs.declared.refusal.Refusal.TheVariants.{LimitReached}
use Rattle.base_core.specs.declared.value.Value.{Value}
use Rattle.class_types.specs.declared.mapped.Attribute.{Attribute}
use Rattle.class_mapping.specs.Mapped.{IsClass, Mapped, attributes_of, no_attribute, root_of}
use Rattle.class_mapping.proofs.LineLemmas.{line_within}
use Rattle.mapping_laws.specs.Hierarchies.{HasHierarchies}
use Rattle.object_arena.specs.declared.object.Cell.{Cell}
use Rattle.object_arena.specs.declared.object.Object.{Object}
use Rattle.object_arena.specs.Fit.{IsFit, ObjectFits, cell_fits, key_fits, links_fit, value_fits}
use Rattle.object_arena.specs.Graph.{Graph, IsObject, expired_object, fresh_object, no_object, object_at, object_limit, place_of, with_fresh, with_object}
use Rattle.object_arena.specs.Identity.{find_identity, with_identity}
use Rattle.object_arena.proofs.FitLemmas.{fit_at, fit_expired, fit_fresh, fit_links, fit_registered}
use Rattle.object_arena.proofs.LinkLemmas.{links_same}
use Rattle.load_filling.specs.Filled.{AreFoundFor, Found, cell_read, filled_cell, filled_object, value_found, with_filled}
use Rattle.load_filling.specs.Loaded.{load, with_loaded}
use Rattle.load_filling.specs.Rows.{FitsAs, class_named, found_or_loaded, loaded_as, row_key, row_object}
use Rattle.load_filling.proofs.LoadedLemmas.{loaded_is, next_object}
use Rattle.load_rows.specs.Loading.{Loading, filled, found_in_row, take_row, taken_as}
use Rattle.load_rows.specs.Reading.{IsRowOf}
use Rattle.load_rows.proofs.TakenLemmas.{row_fits}
use Rattle.loading_laws.specs.Strategies.Filled.{Goes}
use Rattle.loading_laws.proofs.Strategies.Standing.{named_under, row_object_taken}

-- ---- cells that are filled

read_fits : (attribute : Attribute) (cell : Cell) (found : Option Value) → value_fits attribute found ≡ true → cell_fits attribute cell ≡ true → cell_fits attribute (cell_read cell found) ≡ true
read_fits attribute cell None fits h = h
read_fits attribute cell (Some value) fits h = and_from (value_fits attribute (Some value)) (value_fits attribute (Some value)) fits fits

either_fits : (attribute : Attribute) (one other : Cell) (b : Bool) → cell_fits attribute one ≡ true → cell_fits attribute other ≡ true → cell_fits attribute (if b then one else other) ≡ true
either_fits attribute one other true p q = p
either_fits attribute one other false p q = q

module _ (found : Found) where
  -- what was found of the cells from a number on fits these attributes
  abbrev FoundFit : ℕ → List Attribute → Type 0
  FoundFit first attributes = (i j : ℕ) (attribute : Attribute) → slice_get attributes i ≡ Some attribute → j ≡ first + i → value_fits attribute (value_found found j) ≡ true

  cells_filled : (attributes : List Attribute) (cells : List Cell) (first : ℕ) → FoundFit first attributes → pointwise cell_fits attributes cells ≡ true → pointwise cell_fits attributes (map (filled_cell found) (enumerate_from first cells)) ≡ true
  cells_filled [] [] first fit h = refl
  cells_filled [] (cell ∷ cells) first fit h = h
  cells_filled (attribute ∷ attributes) [] first fit h = h
  cells_filled (attribute ∷ attributes) (cell ∷ cells) first fit h =
      let parts = and_parts (cell_fits attribute cell) (pointwise cell_fits attributes cells) h in
      let here = read_fits attribute cell (value_found found first) (fit 0 first attribute refl (omega arith)) parts.0 in
      and_from (cell_fits attribute (filled_cell found (first, cell))) (pointwise cell_fits attributes (map (filled_cell found) (enumerate_from (first + 1) cells)))
      (either_fits attribute (cell_read cell (value_found found first)) cell (is_none cell.value) here parts.0)
      (cells_filled attributes cells (first + 1) (λ i j other at same. fit (suc i) j other at (omega (arith, same))) parts.1)

module _ (mapped : Mapped) (graph : Graph) (object : ObjId) (fit : IsFit mapped graph) (made : IsObject graph object) where
  abbrev old : Object
  old = object_at graph object

  -- the object's cells that are filled with what is of their kinds
  pub fit_filled : (found : Found) → AreFoundFor (object_at graph object).class found mapped → IsFit mapped (with_filled graph object found)
  unfolding with_filled
  fit_filled found kinds =
      let new : Object = filled_object found old in
      let fits : ObjectFits mapped old = fit_at mapped graph object fit made in
      let attributes : List Attribute = attributes_of mapped old.class in
      let here : FoundFit found 0 attributes =
      λ i j attribute at same.
      let there : j ≡ i = omega (arith, same) in
      subst (λ (a : Attribute). value_fits a (value_found found j) ≡ true) (get_or_from_slice_get attributes j attribute no_attribute (ap (slice_get attributes) there ∙ at)) (kinds (let attr : AttrNo = record { 0 = j } in attr)) in
      record {
        objects =
            All-set (ObjectFits mapped) graph.objects (place_of object) new
            (record { class = fits.class; cells = cells_filled found attributes old.cells 0 here fits.cells; identity = fits.identity; links = fits.links }) fit.objects;
        roots = fit.roots ∙ sym (map-set_same (λ (o : Object). root_of mapped o.class) graph.objects (place_of object) new no_object refl);
        links =
            All-set (λ (o : Object). links_fit mapped graph.roots o ≡ true) graph.objects (place_of object) new
            (links_same mapped graph.roots old new refl refl (fit_links mapped graph object fit made)) fit.links;
      }

-- ---- an object that is made

fit_loaded : (mapped : Mapped) (class : ClassId) (key : List Value) (graph : Graph) → IsClass mapped class → key_fits mapped class key ≡ true → IsFit mapped graph → IsFit mapped (with_loaded mapped class key graph)
fit_loaded mapped class key graph declared fits fit =
    let fresh : Graph = with_fresh graph mapped class in
    let next : ObjId = next_object graph in
    let new : Object = fresh_object mapped class in
    let long : length (graph.objects ++ new ∷ []) ≡ length graph.objects + 1 = length-append graph.objects (new ∷ []) in
    let place : length graph.objects + 1 - 1 ≡ length graph.objects = omega arith in
    let there : object_at fresh next ≡ new = ap (λ (n : ℕ). get_or (graph.objects ++ new ∷ []) n no_object) place ∙ get_or-append_seam graph.objects new [] no_object in
    let within : IsObject fresh next = (omega arith, omega (arith, long)) in
    let middle : Graph = with_identity fresh next key in
    let settled : IsFit mapped middle =
    fit_registered mapped fresh middle next key within refl (fit_fresh mapped graph fresh class declared refl fit) (ap (λ (o : Object). key_fits mapped o.class key) there ∙ fits) in
    let same : length middle.objects ≡ length fresh.objects = length-set fresh.objects (place_of next) _ in
    let inside : IsObject middle next = (omega arith, omega (arith, long, same)) in
    subst (IsFit mapped) (loaded_is mapped class key graph middle refl) (fit_expired mapped middle (with_object middle next (expired_object (object_at middle next))) next inside refl settled)

-- ---- a row that is taken

same_pair : {A B : Type 0} (x y : A × B) → ◌≡◌ {A = Result (A × B) Refusal} (Ok x) (Ok y) → x ≡ y
same_pair x y e = cc

module _ (mapped : Mapped) (class : ClassId) (has : HasHierarchies mapped) (declared : IsClass mapped class) (row : List Value) (old : Graph) (fit : IsFit mapped old) where
  abbrev key : List Value
  key = row_key mapped class row

  made_fits : (named : ClassId) (found : ObjId × Graph) (b : Bool) → class_named mapped class row ≡ Some named → key_fits mapped named key ≡ true
      → (if b then Ok (next_object old, with_loaded mapped named key old) else Err (LimitReached Objects)) ≡ Ok found → IsFit mapped found.1
  made_fits named found false names fits e = absurd cc
  made_fits named found true names fits e =
      let under = named_under mapped class named row has declared names in
      let within : named.0 < length mapped.classes.lines = line_within mapped.classes.lines named.0 class.0 (slice_get mapped.classes.lines named.0) refl under in
      let here : IsClass mapped named = subst (λ (n : ℕ). named.0 < n) has.lined within in
      subst (λ (one : ObjId × Graph). IsFit mapped one.1) (same_pair (next_object old, with_loaded mapped named key old) found e) (fit_loaded mapped named key old here fits fit)

  named_fits : (named : Option ClassId) (found : ObjId × Graph) → class_named mapped class row ≡ named → FitsAs mapped key named → loaded_as mapped key old named ≡ Ok found → IsFit mapped found.1
  unfolding load
  named_fits None found names fits e = absurd cc
  named_fits (Some named) found names fits e = made_fits named found (nat_lt (length old.objects) object_limit) names fits e

  pub found_fits : (holder : Option ObjId) (found : ObjId × Graph) → IsRowOf mapped class row → found_or_loaded mapped class row old holder ≡ Ok found → IsFit mapped found.1
  found_fits None found is e = named_fits (class_named mapped class row) found refl is.key e
  found_fits (Some object) found is e = subst (λ (one : ObjId × Graph). IsFit mapped one.1) (same_pair (object, old) found e) fit

module _ (mapped : Mapped) (class : ClassId) (has : HasHierarchies mapped) (declared : IsClass mapped class) where
  taken_fits : (row : List Value) (own now : Loading) (object : ObjId) (r : Result (ObjId × Graph) Refusal) → IsRowOf mapped class row → IsFit mapped own.graph → length own.graph.roots ≡ length own.graph.objects
      → row_object mapped class row own.graph ≡ r → Goes (λ (start : Loading). taken_as mapped class row start r) own object now → IsFit mapped now.graph
  unfolding filled row_object
  taken_fits row own now object (Err e) is fit rooted made g = absurd (let no = g.answer in cc)
  taken_fits row own now object (Ok found) is fit rooted made g =
      let values : Found = found_in_row mapped class row (object_at found.1 found.0).class in
      let there = row_object_taken mapped class row own.graph has.paired rooted found made in
      let after : IsFit mapped found.1 = found_fits mapped class has declared row own.graph fit (find_identity own.graph (root_of mapped class) (row_key mapped class row)) found is made in
      subst (λ (one : Loading). IsFit mapped one.graph) g.leaves
      (fit_filled mapped found.1 found.0 after there.stands.0 values (row_fits mapped class (object_at found.1 found.0).class row is.kinds))

  -- the objects fit then
  pub row_fit : (row : List Value) (own now : Loading) (object : ObjId) → IsRowOf mapped class row → IsFit mapped own.graph → length own.graph.roots ≡ length own.graph.objects → Goes (take_row mapped class row) own object now → IsFit mapped now.graph
  unfolding take_row
  row_fit row own now object is fit rooted g = taken_fits row own now object (row_object mapped class row own.graph) is fit rooted refl (record { answer = g.answer; leaves = g.leaves })
