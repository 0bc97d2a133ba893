-- What is told of links are objects of the graph.
use Rattle.std.proofs.Common.{◌≡◌, ℕ, ◌&&◌, Bool, true, List, [], ◌∷◌, length, get_or, Option, None, Some, sym, subst}
use Rattle.std.specs.Prelude.{slice_get}
use Rattle.std.specs.List.{All, list_all}
use Rattle.std.proofs.lemmas.Bool.{and_parts}
use Rattle.std.proofs.lemmas.List.Elements.{All-cons, All-nil}
use Rattle.base_core.specs.declared.ids.ClassId.{ClassId}
use Rattle.base_core.specs.declared.ids.ObjId.{ObjId}
use Rattle.class_types.specs.declared.mapped.Relation.{Relation}
use Rattle.class_mapping.specs.Mapped.{Mapped, relations_of, root_of}
use Rattle.object_arena.specs.declared.object.Link.TheVariants as link
use Rattle.object_arena.specs.declared.object.Object.{Object}
use Rattle.object_arena.specs.Fit.{IsFit, held_fit, is_of_root, links_fit, no_relation}
use Rattle.object_arena.specs.Graph.{Graph, IsObject}
use Rattle.relations.proofs.EndLemmas.{led_made, link_found, of_root_made, roots_long}
use Rattle.session_links.specs.declared.reading.Related.TheVariants.{One}
use Rattle.session_links.specs.Reading.{AreToldMade}

pub end_told : (mapped : Mapped) (graph : Graph) (object : Object) (place : ℕ) (end : Option ObjId) (changed : Bool) → IsFit mapped graph → links_fit mapped graph.roots object ≡ true → slice_get object.links place ≡ Some (link.One end changed) → AreToldMade graph (One end)
end_told mapped graph object place None changed fit fits found = tt
end_told mapped graph object place (Some end) changed fit fits found = led_made mapped graph object place (Some end) changed fit fits found

all_made : (graph : Graph) (root : ClassId) (objects : List ObjId) → length graph.roots ≡ length graph.objects → list_all (is_of_root graph.roots root) objects ≡ true → All (IsObject graph) objects
all_made graph root [] long h = All-nil (IsObject graph)
all_made graph root (object ∷ objects) long h =
    let parts = and_parts (is_of_root graph.roots root object) (list_all (is_of_root graph.roots root) objects) h in
    All-cons (IsObject graph) object objects (of_root_made graph root object long parts.0) (all_made graph root objects long parts.1)

pub members_told : (mapped : Mapped) (graph : Graph) (object : Object) (place : ℕ) (members base told : List ObjId) → IsFit mapped graph → links_fit mapped graph.roots object ≡ true → slice_get object.links place ≡ Some (link.Many members base) → told ≡ members → All (IsObject graph) told
members_told mapped graph object place members base told fit fits found is =
    let relation : Relation = get_or (relations_of mapped object.class) place no_relation in
    let root : ClassId = root_of mapped relation.target in
    let held : held_fit graph.roots root relation.many (link.Many members base) ≡ true = link_found mapped graph.roots object place (link.Many members base) fits found in
    let both = (and_parts relation.many (list_all (is_of_root graph.roots root) members && list_all (is_of_root graph.roots root) base) held).1 in
    subst (All (IsObject graph)) (sym is) (all_made graph root members (roots_long mapped graph fit) (and_parts (list_all (is_of_root graph.roots root) members) (list_all (is_of_root graph.roots root) base) both).0)
