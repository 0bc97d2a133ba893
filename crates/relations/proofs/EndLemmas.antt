-- The object to which a loaded link leads is one of the graph.
use Rattle.std.proofs.Common.{◌≡◌, ℕ, ◌<◌, Bool, true, List, [], ◌∷◌, length, get_or, zero, suc, Option, None, Some, Result, Ok, Err, IfOk, sym, ap, ◌∙◌, arith}
use Rattle.std.specs.Prelude.{not, nat_lt, slice_get}
use Rattle.std.specs.Cmp.Lexicographic.{as_long}
use Rattle.std.proofs.lemmas.Bool.{and_parts}
use Rattle.std.proofs.lemmas.Bool.Decides.{nat_tests}
use Rattle.std.proofs.lemmas.List.{length-map}
use Rattle.std.proofs.lemmas.Option.{get_or_from_slice_get, slice_get_within}
use Rattle.base_core.specs.declared.ids.ClassId.{ClassId}
use Rattle.base_core.specs.declared.ids.ObjId.{ObjId}
use Rattle.base_core.specs.declared.ids.RelNo.{RelNo}
use Rattle.class_types.specs.declared.mapped.Relation.{Relation}
use Rattle.class_mapping.specs.Mapped.{Mapped, relations_of, root_of}
use Rattle.object_arena.specs.declared.object.Link.{Link}
use Rattle.object_arena.specs.declared.object.Link.TheVariants.{Unset, Unloaded, One}
use Rattle.object_arena.specs.declared.object.Object.{Object}
use Rattle.object_arena.specs.Graph.{Graph, IsObject, object_at, place_of}
use Rattle.object_arena.specs.Fit.{IsFit, end_fits, held_fit, is_of_root, is_root, link_fits, links_fit, no_relation}
use Rattle.object_arena.proofs.PartLemmas.{pointwise_at}
use Rattle.relations.specs.Parents.{IsMade, old_parent, parent_by_cells, parent_by_link}
use Rattle.relations.specs.declared.parents.OldParent.TheVariants.{Known}

root_within : (roots : List ClassId) (root : ClassId) (place : ℕ) → is_root root (slice_get roots place) ≡ true → place < length roots
root_within [] root place h = absurd cc
root_within (own ∷ roots) root zero h = omega arith
root_within (own ∷ roots) root (suc place) h = let less : place < length roots = root_within roots root place h in omega arith

-- as many root classes as objects
pub roots_long : (mapped : Mapped) (graph : Graph) → IsFit mapped graph → length graph.roots ≡ length graph.objects
roots_long mapped graph fit = ap (λ (roots : List ClassId). length roots) fit.roots ∙ length-map graph.objects (λ (object : Object). root_of mapped object.class)

pub of_root_made : (graph : Graph) (root : ClassId) (object : ObjId) → length graph.roots ≡ length graph.objects → is_of_root graph.roots root object ≡ true → IsObject graph object
of_root_made graph root object long h =
    let parts = and_parts (nat_lt 0 object.0) (is_root root (slice_get graph.roots (place_of object))) h in
    let positive : nat_lt 0 object.0 ≡ true = parts.0 in
    let inside : place_of object < length graph.roots = root_within graph.roots root (place_of object) parts.1 in
    let above : 0 < object.0 = grind (arith, nat_tests) in
    (above, omega arith)

end_made : (graph : Graph) (root : ClassId) (end : Option ObjId) → length graph.roots ≡ length graph.objects → end_fits graph.roots root end ≡ true → IsMade graph (Known end)
end_made graph root None long h = tt
end_made graph root (Some object) long h = of_root_made graph root object long h

-- the link at a place fits its relationship
pub link_found : (mapped : Mapped) (roots : List ClassId) (object : Object) (place : ℕ) (link : Link) → links_fit mapped roots object ≡ true → slice_get object.links place ≡ Some link
    → link_fits mapped roots (get_or (relations_of mapped object.class) place no_relation) link ≡ true
link_found mapped roots object place link fits found =
    let relations : List Relation = relations_of mapped object.class in
    let long : length relations ≡ length object.links = as_long (link_fits mapped roots) relations object.links fits in
    let less : place < length object.links = slice_get_within object.links place link found in
    ap (λ (l : Link). link_fits mapped roots (get_or relations place no_relation) l) (sym (get_or_from_slice_get object.links place link Unset found))
    ∙ pointwise_at (link_fits mapped roots) relations object.links place no_relation Unset fits (omega arith)

pub led_made : (mapped : Mapped) (graph : Graph) (object : Object) (place : ℕ) (end : Option ObjId) (changed : Bool) → IsFit mapped graph → links_fit mapped graph.roots object ≡ true → slice_get object.links place ≡ Some (One end changed) → IsMade graph (Known end)
led_made mapped graph object place end changed fit fits found =
    let relation : Relation = get_or (relations_of mapped object.class) place no_relation in
    let held : held_fit graph.roots (root_of mapped relation.target) relation.many (One end changed) ≡ true = link_found mapped graph.roots object place (One end changed) fits found in
    end_made graph (root_of mapped relation.target) end (roots_long mapped graph fit) (and_parts (not relation.many) (end_fits graph.roots (root_of mapped relation.target) end) held).1

-- the old parent of an unloaded link is the one that the cells name
pub parent_unloaded : (graph : Graph) (mapped : Mapped) (child : ObjId) (place : RelNo) (relation : Relation) (object : Object) (added removed : List ObjId) → object ≡ object_at graph child → slice_get object.links place.0 ≡ Some (Unloaded added removed)
    → parent_by_cells graph mapped object relation ≡ old_parent graph mapped child place relation
unfolding old_parent
parent_unloaded graph mapped child place relation object added removed is found =
    ap (λ (link : Option Link). parent_by_link (parent_by_cells graph mapped object relation) link) (sym found)
    ∙ ap (λ (o : Object). parent_by_link (parent_by_cells graph mapped o relation) (slice_get o.links place.0)) is

pub if_ok_same : {X E : Type 0} (result : Result X E) (one other : X) → one ≡ other → IfOk result (λ x. x ≡ one) → IfOk result (λ x. x ≡ other)
if_ok_same (Ok x) one other same h = h ∙ same
if_ok_same (Err e) one other same h = tt
