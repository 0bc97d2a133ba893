-- What a change of one object keeps of a graph that fits its mapping.
use Rattle.std.proofs.Common.{◌≡◌, ℕ, ◌<◌, ◌≤◌, Bool, true, false, List, [], ◌∷◌, ◌++◌, length, get_or, Option, None, Some, refl, sym, ap, ◌∙◌, subst, arith}
use Rattle.std.specs.Prelude.{slice_set, if◌then◌else◌}
use Rattle.std.specs.Cmp.Lexicographic.{as_long}
use Rattle.std.proofs.Math.Seq.{map-set_same}
use Rattle.std.proofs.lemmas.Bool.{and_from, and_parts}
use Rattle.std.proofs.lemmas.List.{get_or-map, length-map, length-set, map-append}
use Rattle.std.proofs.lemmas.List.Elements.{All-nil, All-push, All-set}
use Rattle.base_core.specs.declared.ids.AttrNo.{AttrNo}
use Rattle.base_core.specs.declared.ids.ClassId.{ClassId}
use Rattle.base_core.specs.declared.ids.ObjId.{ObjId}
use Rattle.base_core.specs.declared.ids.RelNo.{RelNo}
use Rattle.base_core.specs.declared.value.Kind.{Kind}
use Rattle.base_core.specs.declared.value.Value.{Value}
use Rattle.base_core.specs.declared.refusal.Refusal.{Refusal}
use Rattle.base_core.specs.declared.refusal.Refusal.TheVariants.{TypeMismatch}
use Rattle.schema_core.specs.Catalog.{same_kind}
use Rattle.schema_core.specs.Tables.{kind_of_value}
use Rattle.schema_core.specs.Refusals.{kind_fault}
use Rattle.class_types.specs.declared.mapped.Attribute.{Attribute}
use Rattle.class_mapping.specs.Mapped.{IsAttribute, IsClass, Mapped, attribute_of, attributes_of, no_attribute, relations_of, root_of}
use Rattle.object_arena.specs.declared.object.State.{State}
use Rattle.object_arena.specs.declared.object.State.TheVariants.{Transient, Pending, Persistent, Deleted, Detached}
use Rattle.object_arena.specs.declared.object.Cell.{Cell}
use Rattle.object_arena.specs.declared.object.Link.{Link}
use Rattle.object_arena.specs.declared.object.Link.TheVariants.{Unset, Unloaded}
use Rattle.object_arena.specs.declared.object.Object.{Object}
use Rattle.object_arena.specs.Graph.{Graph, IsCell, IsLink, IsObject, cell_in, cell_put, either_fault, empty_graph, expired_object, expired_cell, fresh_object, kept_identity, key_fault, no_object, null_cell, object_at, place_of, put_back_object, root_at, no_class_id, settled_object, settled_cell, settled_link, settled_value, value_fault, with_cell, with_fresh, with_link, with_marks, with_object, with_state, with_value}
use Rattle.object_arena.specs.Identity.{with_identity}
use Rattle.object_arena.specs.Fit.{IsFit, ObjectFits, cell_fits, identity_fits, is_of_kind, key_fits, link_fits, links_fit, no_relation, relation_of, value_fits}
use Rattle.object_arena.proofs.ClassLemmas.{settled_class}
use Rattle.object_arena.proofs.LinkLemmas.{links_expired, links_fresh, links_grown, links_same, links_settled}
use Rattle.object_arena.proofs.PartLemmas.{pointwise_at, pointwise_made, pointwise_map, pointwise_set}

-- an object of a graph that fits
pub fit_at : (mapped : Mapped) (graph : Graph) (object : ObjId) → IsFit mapped graph → IsObject graph object → ObjectFits mapped (object_at graph object)
fit_at mapped graph object fit within =
    let above : 0 < object.0 = within.0 in
    let inside : object.0 ≤ length graph.objects = within.1 in
    fit.objects (place_of object) no_object (omega arith)

-- its class is declared
pub fit_class : (mapped : Mapped) (graph : Graph) (object : ObjId) → IsFit mapped graph → IsObject graph object → IsClass mapped (object_at graph object).class
fit_class mapped graph object fit within = (fit_at mapped graph object fit within).class

-- it has one cell for each attribute
pub fit_cells : (mapped : Mapped) (graph : Graph) (object : ObjId) → IsFit mapped graph → IsObject graph object → length (attributes_of mapped (object_at graph object).class) ≡ length (object_at graph object).cells
fit_cells mapped graph object fit within = as_long cell_fits (attributes_of mapped (object_at graph object).class) (object_at graph object).cells (fit_at mapped graph object fit within).cells

-- its root class is that of its class
pub fit_root : (mapped : Mapped) (graph : Graph) (object : ObjId) → IsFit mapped graph → IsObject graph object → root_at graph object ≡ root_of mapped (object_at graph object).class
fit_root mapped graph object fit within =
    let above : 0 < object.0 = within.0 in
    let inside : object.0 ≤ length graph.objects = within.1 in
    ap (λ (roots : List ClassId). get_or roots (place_of object) no_class_id) fit.roots
    ∙ get_or-map (λ (o : Object). root_of mapped o.class) graph.objects (place_of object) no_object no_class_id (omega arith)

-- its links fit
pub fit_links : (mapped : Mapped) (graph : Graph) (object : ObjId) → IsFit mapped graph → IsObject graph object → links_fit mapped graph.roots (object_at graph object) ≡ true
fit_links mapped graph object fit within =
    let above : 0 < object.0 = within.0 in
    let inside : object.0 ≤ length graph.objects = within.1 in
    fit.links (place_of object) no_object (omega arith)

-- another record that fits, of the same class
fit_put : (mapped : Mapped) (graph : Graph) (object : ObjId) (new : Object) → IsFit mapped graph → ObjectFits mapped new → links_fit mapped graph.roots new ≡ true → new.class ≡ (object_at graph object).class → IsFit mapped (with_object graph object new)
fit_put mapped graph object new fit fits links class = record {
  objects = All-set (ObjectFits mapped) graph.objects (place_of object) new fits fit.objects;
  roots = fit.roots ∙ sym (map-set_same (λ (o : Object). root_of mapped o.class) graph.objects (place_of object) new no_object (ap (root_of mapped) class));
  links = All-set (λ (o : Object). links_fit mapped graph.roots o ≡ true) graph.objects (place_of object) new links fit.links;
}

-- another record that fits, of the same class and with the same links
fit_set : (mapped : Mapped) (graph : Graph) (object : ObjId) (new : Object) → IsFit mapped graph → IsObject graph object → ObjectFits mapped new → new.class ≡ (object_at graph object).class → new.links ≡ (object_at graph object).links → IsFit mapped (with_object graph object new)
fit_set mapped graph object new fit within fits class links =
    fit_put mapped graph object new fit fits (links_same mapped graph.roots (object_at graph object) new class links (fit_links mapped graph object fit within)) class

first_none : (first second : Option Refusal) → either_fault first second ≡ None → first ≡ None
first_none None second h = refl
first_none (Some fault) second h = absurd cc

kind_taken : (same : Bool) (fault : Refusal) → (if same then None else Some fault) ≡ None → same ≡ true
kind_taken true fault h = refl
kind_taken false fault h = absurd cc

of_kind : (wanted : Kind) (found : Option Kind) → kind_fault wanted found ≡ None → is_of_kind wanted found ≡ true
of_kind wanted None h = refl
of_kind wanted (Some found) h = kind_taken (same_kind wanted found) (TypeMismatch wanted found) h

-- a value without a fault in a cell
pub fit_value : (mapped : Mapped) (graph new_graph : Graph) (object : ObjId) (attr : AttrNo) (value : Value) → IsFit mapped graph → IsObject graph object → IsAttribute mapped (object_at graph object).class attr → either_fault (value_fault mapped (object_at graph object) attr value) (key_fault mapped (object_at graph object) attr) ≡ None → new_graph ≡ with_value graph object attr value → IsFit mapped new_graph
fit_value mapped graph new_graph object attr value fit within inside taken is =
    let old : Object = object_at graph object in
    let fits : ObjectFits mapped old = fit_at mapped graph object fit within in
    let new : Cell = record (cell_in old attr) { value = Some value } in
    let kept : cell_fits (attribute_of mapped old.class attr) (cell_in old attr) ≡ true = pointwise_at cell_fits (attributes_of mapped old.class) old.cells attr.0 no_attribute expired_cell fits.cells inside in
    let right : value_fits (attribute_of mapped old.class attr) (Some value) ≡ true = of_kind (attribute_of mapped old.class attr).kind (kind_of_value value) (first_none (value_fault mapped old attr value) (key_fault mapped old attr) taken) in
    let good : cell_fits (attribute_of mapped old.class attr) new ≡ true =
    and_from (value_fits (attribute_of mapped old.class attr) (Some value)) (value_fits (attribute_of mapped old.class attr) (cell_in old attr).base) right
    (and_parts (value_fits (attribute_of mapped old.class attr) (cell_in old attr).value) (value_fits (attribute_of mapped old.class attr) (cell_in old attr).base) kept).1 in
    rw is
    (fit_set mapped graph object (cell_put old attr new) fit within
    (record {
      class = fits.class;
      cells = pointwise_set cell_fits (attributes_of mapped old.class) old.cells attr.0 new no_attribute fits.cells good inside;
      identity = fits.identity;
      links = fits.links;
    })
    refl refl)

-- a fresh object
pub fit_fresh : (mapped : Mapped) (graph new_graph : Graph) (class : ClassId) → IsClass mapped class → new_graph ≡ with_fresh graph mapped class → IsFit mapped graph → IsFit mapped new_graph
fit_fresh mapped graph new_graph class declared is fit =
    let new : Object = fresh_object mapped class in
    let fits : ObjectFits mapped new = record {
      class = declared;
      cells = pointwise_made cell_fits (attributes_of mapped class) null_cell (λ attribute. refl);
      identity = refl;
      links = length-map (relations_of mapped class) (λ relation. Unset);
    } in
    rw is
    (record {
      objects = All-push (ObjectFits mapped) graph.objects new fit.objects fits;
      links = All-push (λ (o : Object). links_fit mapped (graph.roots ++ root_of mapped class ∷ []) o ≡ true) graph.objects new
          (λ k d less. links_grown mapped graph.roots (root_of mapped class) (get_or graph.objects k d) (fit.links k d less))
          (links_fresh mapped (graph.roots ++ root_of mapped class ∷ []) (relations_of mapped class));
      roots = rw (map-append (λ (o : Object). root_of mapped o.class) graph.objects (new ∷ [])) (ap (λ (roots : List ClassId). roots ++ root_of mapped class ∷ []) fit.roots);
    })

-- another cell that fits
pub fit_cell : (mapped : Mapped) (graph new_graph : Graph) (object : ObjId) (attr : AttrNo) (cell : Cell) → IsObject graph object → IsCell graph object attr → new_graph ≡ with_cell graph object attr cell → IsFit mapped graph → cell_fits (attribute_of mapped (object_at graph object).class attr) cell ≡ true → IsFit mapped new_graph
fit_cell mapped graph new_graph object attr cell within inside is fit good =
    let old : Object = object_at graph object in
    let fits : ObjectFits mapped old = fit_at mapped graph object fit within in
    let held : attr.0 < length (attributes_of mapped old.class) = rw (fit_cells mapped graph object fit within) inside in
    rw is
    (fit_set mapped graph object (cell_put old attr cell) fit within
    (record {
      class = fits.class;
      cells = pointwise_set cell_fits (attributes_of mapped old.class) old.cells attr.0 cell no_attribute fits.cells good held;
      identity = fits.identity;
      links = fits.links;
    })
    refl refl)

-- another link that fits
pub fit_link : (mapped : Mapped) (graph new_graph : Graph) (object : ObjId) (relation : RelNo) (link : Link) → IsObject graph object → IsLink graph object relation → new_graph ≡ with_link graph object relation link → IsFit mapped graph → link_fits mapped graph.roots (relation_of mapped (object_at graph object).class relation) link ≡ true → IsFit mapped new_graph
fit_link mapped graph new_graph object relation link within inside is fit good =
    let old : Object = object_at graph object in
    let fits : ObjectFits mapped old = fit_at mapped graph object fit within in
    let held : relation.0 < length (relations_of mapped old.class) = subst (λ (n : ℕ). relation.0 < n) fits.links inside in
    rw is
    (fit_put mapped graph object (record old { links = slice_set old.links relation.0 link }) fit
    (record { class = fits.class; cells = fits.cells; identity = fits.identity; links = length-set old.links relation.0 link ∙ fits.links })
    (pointwise_set (link_fits mapped graph.roots) (relations_of mapped old.class) old.links relation.0 link no_relation (fit_links mapped graph object fit within) good held)
    refl)

-- other marks
pub fit_marks : (mapped : Mapped) (graph new_graph : Graph) (object : ObjId) (added : ℕ) (marked orphan : Bool) → IsObject graph object → new_graph ≡ with_marks graph object added marked orphan → IsFit mapped graph → IsFit mapped new_graph
fit_marks mapped graph new_graph object added marked orphan within is fit =
    let old : Object = object_at graph object in
    let fits : ObjectFits mapped old = fit_at mapped graph object fit within in
    rw is
    (fit_set mapped graph object (record old { added = added; marked = marked; orphan = orphan }) fit within
    (record { class = fits.class; cells = fits.cells; identity = fits.identity; links = fits.links })
    refl refl)

kept_fits : (mapped : Mapped) (class : ClassId) (state : State) (identity : Option (List Value)) → identity_fits mapped class identity ≡ true → identity_fits mapped class (kept_identity state identity) ≡ true
kept_fits mapped class Transient identity h = refl
kept_fits mapped class Pending identity h = refl
kept_fits mapped class Persistent identity h = h
kept_fits mapped class Deleted identity h = h
kept_fits mapped class Detached identity h = h

-- another state
pub fit_state : (mapped : Mapped) (graph new_graph : Graph) (object : ObjId) (state : State) → IsObject graph object → new_graph ≡ with_state graph object state → IsFit mapped graph → IsFit mapped new_graph
fit_state mapped graph new_graph object state within is fit =
    let old : Object = object_at graph object in
    let fits : ObjectFits mapped old = fit_at mapped graph object fit within in
    rw is
    (fit_set mapped graph object (record old { state = state; identity = kept_identity state old.identity }) fit within
    (record { class = fits.class; cells = fits.cells; identity = kept_fits mapped old.class state old.identity fits.identity; links = fits.links })
    refl refl)

-- a registration under a key that fits
pub fit_registered : (mapped : Mapped) (graph new_graph : Graph) (object : ObjId) (key : List Value) → IsObject graph object → new_graph ≡ with_identity graph object key → IsFit mapped graph → key_fits mapped (object_at graph object).class key ≡ true → IsFit mapped new_graph
fit_registered mapped graph new_graph object key within is fit good =
    let old : Object = object_at graph object in
    let fits : ObjectFits mapped old = fit_at mapped graph object fit within in
    rw is
    (fit_set mapped graph object (record old { state = Persistent; identity = Some key }) fit within
    (record { class = fits.class; cells = fits.cells; identity = good; links = fits.links })
    refl refl)

-- an expired object
pub fit_expired : (mapped : Mapped) (graph new_graph : Graph) (object : ObjId) → IsObject graph object → new_graph ≡ with_object graph object (expired_object (object_at graph object)) → IsFit mapped graph → IsFit mapped new_graph
fit_expired mapped graph new_graph object within is fit =
    let old : Object = object_at graph object in
    let fits : ObjectFits mapped old = fit_at mapped graph object fit within in
    rw is
    (fit_put mapped graph object (expired_object old) fit
    (record {
      class = fits.class;
      cells = pointwise_map cell_fits (λ cell. expired_cell) (attributes_of mapped old.class) old.cells (λ attribute cell h. refl) fits.cells;
      identity = fits.identity;
      links = length-map old.links (λ link. Unloaded [] []) ∙ fits.links;
    })
    (links_expired mapped graph.roots old (fit_links mapped graph object fit within))
    refl)

settled_fits : (attribute : Attribute) (cell : Cell) → cell_fits attribute cell ≡ true → cell_fits attribute (settled_cell cell) ≡ true
settled_fits attribute cell h = by_value cell.value h
  where
    by_value : (value : Option Value) → cell_fits attribute cell ≡ true → cell_fits attribute (settled_value value cell) ≡ true
    by_value None h = refl
    by_value (Some value) h = h

settled_object_fits : (mapped : Mapped) (state : State) (object : Object) → ObjectFits mapped object → ObjectFits mapped (settled_object state object)
settled_object_fits mapped Transient object fits = record {
  class = fits.class;
  cells = pointwise_map cell_fits settled_cell (attributes_of mapped object.class) object.cells settled_fits fits.cells;
  identity = fits.identity;
  links = length-map object.links settled_link ∙ fits.links;
}
settled_object_fits mapped Pending object fits = fits
settled_object_fits mapped Persistent object fits = fits
settled_object_fits mapped Deleted object fits = fits
settled_object_fits mapped Detached object fits = fits

settled_links_fit : (mapped : Mapped) (roots : List ClassId) (state : State) (object : Object) → links_fit mapped roots object ≡ true → links_fit mapped roots (settled_object state object) ≡ true
settled_links_fit mapped roots Transient object fits = links_settled mapped roots object fits
settled_links_fit mapped roots Pending object fits = fits
settled_links_fit mapped roots Persistent object fits = fits
settled_links_fit mapped roots Deleted object fits = fits
settled_links_fit mapped roots Detached object fits = fits

-- an object that is put back
pub object_back : (mapped : Mapped) (object : Object) (state : State) (identity : Option (List Value)) → ObjectFits mapped object → identity_fits mapped object.class identity ≡ true → ObjectFits mapped (put_back_object object state identity)
object_back mapped object state identity fits good =
    settled_object_fits mapped state (record object { state = state; identity = identity; marked = false }) (record { class = fits.class; cells = fits.cells; identity = good; links = fits.links })

-- an object put back under an identity that fits
pub fit_back : (mapped : Mapped) (graph new_graph : Graph) (object : ObjId) (state : State) (identity : Option (List Value)) → IsObject graph object → new_graph ≡ with_object graph object (put_back_object (object_at graph object) state identity) → IsFit mapped graph → identity_fits mapped (object_at graph object).class identity ≡ true → IsFit mapped new_graph
fit_back mapped graph new_graph object state identity within is fit good =
    let old : Object = object_at graph object in
    rw is
    (fit_put mapped graph object (put_back_object old state identity) fit (object_back mapped old state identity (fit_at mapped graph object fit within) good)
    (settled_links_fit mapped graph.roots state (record old { state = state; identity = identity; marked = false }) (fit_links mapped graph object fit within))
    (settled_class state (record old { state = state; identity = identity; marked = false })))

-- an object put into a state under its identity
pub fit_stands : (mapped : Mapped) (graph new_graph : Graph) (object : ObjId) (state : State) → IsObject graph object → new_graph ≡ with_object graph object (put_back_object (object_at graph object) state (object_at graph object).identity) → IsFit mapped graph → IsFit mapped new_graph
fit_stands mapped graph new_graph object state within is fit =
    fit_back mapped graph new_graph object state (object_at graph object).identity within is fit (fit_at mapped graph object fit within).identity

-- no objects
pub fit_empty : (mapped : Mapped) → IsFit mapped empty_graph
fit_empty mapped = record { objects = All-nil (ObjectFits mapped); roots = refl; links = All-nil (λ (o : Object). links_fit mapped [] o ≡ true) }
