-- The members of a collection are objects.
use Rattle.std.proofs.Common.{◌≡◌, ℕ, ◌<◌, ◌≤◌, Bool, true, ◌&&◌, ◌||◌, List, [], ◌∷◌, length, get_or, Option, None, Some, refl, sym, ap, ◌∙◌, subst, ⊎_elim, arith}
use Rattle.std.specs.Prelude.{nat_lt, not, slice_get}
use Rattle.std.specs.List.{All, list_all}
use Rattle.std.proofs.lemmas.Bool.{and_parts, cases_lt}
use Rattle.std.proofs.lemmas.Bool.Decides.{nat_tests}
use Rattle.std.proofs.lemmas.List.{get_or_past, length-map}
use Rattle.std.proofs.lemmas.List.Elements.{All-cons, All-nil}
use Rattle.std.proofs.lemmas.Option.{slice_get_within}
use Rattle.base_core.specs.declared.ids.ClassId.{ClassId}
use Rattle.base_core.specs.declared.ids.ObjId.{ObjId}
use Rattle.class_types.specs.declared.mapped.Relation.{Relation}
use Rattle.class_mapping.specs.Mapped.{Mapped, relations_of, root_of}
use Rattle.object_arena.specs.declared.object.Link.{Link}
use Rattle.object_arena.specs.declared.object.Link.TheVariants.{Unset, Unloaded, One, Many}
use Rattle.object_arena.specs.declared.object.Object.{Object}
use Rattle.object_arena.specs.Graph.{Graph, IsObject, object_at, place_of}
use Rattle.object_arena.specs.Fit.{IsFit, held_fit, is_empty, is_of_root, is_root, link_fits, no_relation}
use Rattle.object_arena.proofs.FitLemmas.{fit_at, fit_links}
use Rattle.object_arena.proofs.PartLemmas.{pointwise_at}
use Rattle.object_parts.specs.Ends.{ends_of}

in_roots : (roots : List ClassId) (root : ClassId) (place : ℕ) (found : Option ClassId) → slice_get roots place ≡ found → is_root root found ≡ true → place < length roots
in_roots roots root place None is h = absurd cc
in_roots roots root place (Some own) is h = slice_get_within roots place own is

root_made : (graph : Graph) (root : ClassId) (object : ObjId) → length graph.roots ≡ length graph.objects → is_of_root graph.roots root object ≡ true → IsObject graph object
root_made graph root object rooted h =
    let parts = and_parts (nat_lt 0 object.0) (is_root root (slice_get graph.roots (place_of object))) h in
    let above : nat_lt 0 object.0 ≡ true = parts.0 in
    let inside : place_of object < length graph.roots = in_roots graph.roots root (place_of object) (slice_get graph.roots (place_of object)) refl parts.1 in
    let positive : 0 < object.0 = grind (arith, nat_tests) in
    (positive, omega (arith, rooted))

all_made : (graph : Graph) (root : ClassId) (objects : List ObjId) → length graph.roots ≡ length graph.objects → list_all (is_of_root graph.roots root) objects ≡ true → All (IsObject graph) objects
all_made graph root [] rooted h = All-nil (IsObject graph)
all_made graph root (object ∷ objects) rooted h =
    let parts = and_parts (is_of_root graph.roots root object) (list_all (is_of_root graph.roots root) objects) h in
    All-cons (IsObject graph) object objects (root_made graph root object rooted parts.0) (all_made graph root objects rooted parts.1)

held_made : (graph : Graph) (root : ClassId) (many : Bool) (link : Link) → length graph.roots ≡ length graph.objects → held_fit graph.roots root many link ≡ true → All (IsObject graph) (ends_of link)
held_made graph root many Unset rooted h = All-nil (IsObject graph)
held_made graph root many (Unloaded added removed) rooted h =
    let parts = and_parts ((is_empty added && is_empty removed) || many) (list_all (is_of_root graph.roots root) added && list_all (is_of_root graph.roots root) removed) h in
    all_made graph root added rooted (and_parts (list_all (is_of_root graph.roots root) added) (list_all (is_of_root graph.roots root) removed) parts.1).0
held_made graph root many (One None changed) rooted h = All-nil (IsObject graph)
held_made graph root many (One (Some end) changed) rooted h =
    All-cons (IsObject graph) end [] (root_made graph root end rooted (and_parts (not many) (is_of_root graph.roots root end) h).1) (All-nil (IsObject graph))
held_made graph root many (Many members base) rooted h =
    let parts = and_parts many (list_all (is_of_root graph.roots root) members && list_all (is_of_root graph.roots root) base) h in
    all_made graph root members rooted (and_parts (list_all (is_of_root graph.roots root) members) (list_all (is_of_root graph.roots root) base) parts.1).0

-- a link of an object that fits leads to objects
pub members_made : (mapped : Mapped) (graph : Graph) (owner : ObjId) (number : ℕ) → IsFit mapped graph → IsObject graph owner → All (IsObject graph) (ends_of (get_or (object_at graph owner).links number Unset))
members_made mapped graph owner number fit made = ⊎_elim there past (cases_lt number (length links))
  where
    links : List Link
    links = (object_at graph owner).links

    relation : Relation
    relation = get_or (relations_of mapped (object_at graph owner).class) number no_relation

    long : length links ≡ length (relations_of mapped (object_at graph owner).class)
    long = (fit_at mapped graph owner fit made).links

    rooted : length graph.roots ≡ length graph.objects
    rooted = ap (λ (roots : List ClassId). length roots) fit.roots ∙ length-map graph.objects (λ (o : Object). root_of mapped o.class)

    there : number < length links → All (IsObject graph) (ends_of (get_or links number Unset))
    there less =
        held_made graph (root_of mapped relation.target) relation.many (get_or links number Unset) rooted
        (pointwise_at (link_fits mapped graph.roots) (relations_of mapped (object_at graph owner).class) links number no_relation Unset (fit_links mapped graph owner fit made) (omega (arith, less, long)))

    past : length links ≤ number → All (IsObject graph) (ends_of (get_or links number Unset))
    past over = subst (λ (link : Link). All (IsObject graph) (ends_of link)) (sym (get_or_past links number Unset over)) (All-nil (IsObject graph))
