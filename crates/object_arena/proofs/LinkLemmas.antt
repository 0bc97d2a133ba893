-- What a link that fits goes on to fit.
use Rattle.std.proofs.Common.{◌≡◌, ℕ, ◌+◌, ◌<◌, ◌-◌, Bool, true, false, ◌&&◌, List, [], ◌∷◌, ◌++◌, map, get_or, zero, suc, Option, None, Some, refl, sym, ap, ◌∙◌, subst, arith}
use Rattle.std.specs.Prelude.{not, ◌||◌, nat_lt, slice_get}
use Rattle.std.specs.List.{list_all}
use Rattle.std.specs.Cmp.Lexicographic.{pointwise}
use Rattle.std.proofs.lemmas.Bool.{and_from, and_parts}
use Rattle.base_core.specs.declared.ids.ClassId.{ClassId}
use Rattle.base_core.specs.declared.ids.ObjId.{ObjId}
use Rattle.class_types.specs.declared.mapped.Relation.{Relation}
use Rattle.class_mapping.specs.Mapped.{Mapped, relations_of, root_of}
use Rattle.object_arena.specs.declared.object.Link.{Link}
use Rattle.object_arena.specs.declared.object.Link.TheVariants.{Unset, Unloaded, One, Many}
use Rattle.object_arena.specs.declared.object.Object.{Object}
use Rattle.object_arena.specs.Graph.{place_of, settled_adds, settled_link}
use Rattle.object_arena.specs.Fit.{end_fits, held_fit, is_empty, is_of_root, is_root, link_fits, links_fit}
use Rattle.object_arena.proofs.PartLemmas.{pointwise_made, pointwise_map}

-- ---- the link of an object that becomes transient

empty_or_many : (member : ObjId) (members removed : List ObjId) (many : Bool) → ((is_empty (member ∷ members) && is_empty removed) || many) ≡ true → many ≡ true
empty_or_many member members removed many h = h

settled_fit : (roots : List ClassId) (root : ClassId) (many : Bool) (added removed : List ObjId) → held_fit roots root many (Unloaded added removed) ≡ true → held_fit roots root many (settled_adds added) ≡ true
settled_fit roots root many [] removed h = refl
settled_fit roots root many (member ∷ members) removed h =
    let parts = and_parts ((is_empty (member ∷ members) && is_empty removed) || many) (list_all (is_of_root roots root) (member ∷ members) && list_all (is_of_root roots root) removed) h in
    let added = (and_parts (list_all (is_of_root roots root) (member ∷ members)) (list_all (is_of_root roots root) removed) parts.1).0 in
    and_from many (list_all (is_of_root roots root) (member ∷ members) && list_all (is_of_root roots root) []) (empty_or_many member members removed many parts.0)
    (and_from (list_all (is_of_root roots root) (member ∷ members)) (list_all (is_of_root roots root) []) added refl)

held_settled : (roots : List ClassId) (root : ClassId) (many : Bool) (link : Link) → held_fit roots root many link ≡ true → held_fit roots root many (settled_link link) ≡ true
held_settled roots root many Unset h = refl
held_settled roots root many (Unloaded added removed) h = settled_fit roots root many added removed h
held_settled roots root many (One None changed) h = h
held_settled roots root many (One (Some end) changed) h = h
held_settled roots root many (Many members base) h =
    let parts = and_parts many (list_all (is_of_root roots root) members && list_all (is_of_root roots root) base) h in
    let held = (and_parts (list_all (is_of_root roots root) members) (list_all (is_of_root roots root) base) parts.1).0 in
    and_from many (list_all (is_of_root roots root) members && list_all (is_of_root roots root) []) parts.0
    (and_from (list_all (is_of_root roots root) members) (list_all (is_of_root roots root) []) held refl)

-- ---- one more object

root_grown : (roots : List ClassId) (root one : ClassId) (place : ℕ) → is_root root (slice_get roots place) ≡ true → is_root root (slice_get (roots ++ one ∷ []) place) ≡ true
root_grown [] root one place h = absurd cc
root_grown (own ∷ roots) root one zero h = h
root_grown (own ∷ roots) root one (suc place) h = root_grown roots root one place h

object_grown : (roots : List ClassId) (root one : ClassId) (object : ObjId) → is_of_root roots root object ≡ true → is_of_root (roots ++ one ∷ []) root object ≡ true
object_grown roots root one object h =
    let parts = and_parts (nat_lt 0 object.0) (is_root root (slice_get roots (place_of object))) h in
    and_from (nat_lt 0 object.0) (is_root root (slice_get (roots ++ one ∷ []) (place_of object))) parts.0 (root_grown roots root one (place_of object) parts.1)

all_grown : (roots : List ClassId) (root one : ClassId) (objects : List ObjId) → list_all (is_of_root roots root) objects ≡ true → list_all (is_of_root (roots ++ one ∷ []) root) objects ≡ true
all_grown roots root one [] h = refl
all_grown roots root one (object ∷ objects) h =
    let parts = and_parts (is_of_root roots root object) (list_all (is_of_root roots root) objects) h in
    and_from (is_of_root (roots ++ one ∷ []) root object) (list_all (is_of_root (roots ++ one ∷ []) root) objects) (object_grown roots root one object parts.0) (all_grown roots root one objects parts.1)

both_grown : (roots : List ClassId) (root one : ClassId) (first second : List ObjId) → list_all (is_of_root roots root) first && list_all (is_of_root roots root) second ≡ true
    → list_all (is_of_root (roots ++ one ∷ []) root) first && list_all (is_of_root (roots ++ one ∷ []) root) second ≡ true
both_grown roots root one first second h =
    let parts = and_parts (list_all (is_of_root roots root) first) (list_all (is_of_root roots root) second) h in
    and_from (list_all (is_of_root (roots ++ one ∷ []) root) first) (list_all (is_of_root (roots ++ one ∷ []) root) second) (all_grown roots root one first parts.0) (all_grown roots root one second parts.1)

held_grown : (roots : List ClassId) (root one : ClassId) (many : Bool) (link : Link) → held_fit roots root many link ≡ true → held_fit (roots ++ one ∷ []) root many link ≡ true
held_grown roots root one many Unset h = refl
held_grown roots root one many (Unloaded added removed) h =
    let parts = and_parts ((is_empty added && is_empty removed) || many) (list_all (is_of_root roots root) added && list_all (is_of_root roots root) removed) h in
    and_from ((is_empty added && is_empty removed) || many) (list_all (is_of_root (roots ++ one ∷ []) root) added && list_all (is_of_root (roots ++ one ∷ []) root) removed) parts.0 (both_grown roots root one added removed parts.1)
held_grown roots root one many (One None changed) h = h
held_grown roots root one many (One (Some end) changed) h =
    let parts = and_parts (not many) (is_of_root roots root end) h in
    and_from (not many) (is_of_root (roots ++ one ∷ []) root end) parts.0 (object_grown roots root one end parts.1)
held_grown roots root one many (Many members base) h =
    let parts = and_parts many (list_all (is_of_root roots root) members && list_all (is_of_root roots root) base) h in
    and_from many (list_all (is_of_root (roots ++ one ∷ []) root) members && list_all (is_of_root (roots ++ one ∷ []) root) base) parts.0 (both_grown roots root one members base parts.1)

-- ---- all links of an object

pub links_settled : (mapped : Mapped) (roots : List ClassId) (object : Object) → links_fit mapped roots object ≡ true → pointwise (link_fits mapped roots) (relations_of mapped object.class) (map settled_link object.links) ≡ true
links_settled mapped roots object h =
    pointwise_map (link_fits mapped roots) settled_link (relations_of mapped object.class) object.links
    (λ relation link fits. held_settled roots (root_of mapped relation.target) relation.many link fits) h

pub links_expired : (mapped : Mapped) (roots : List ClassId) (object : Object) → links_fit mapped roots object ≡ true → pointwise (link_fits mapped roots) (relations_of mapped object.class) (map (λ link. Unloaded [] []) object.links) ≡ true
links_expired mapped roots object h = pointwise_map (link_fits mapped roots) (λ link. Unloaded [] []) (relations_of mapped object.class) object.links (λ relation link fits. refl) h

pointwise_grown : (mapped : Mapped) (roots : List ClassId) (one : ClassId) (relations : List Relation) (links : List Link) → pointwise (link_fits mapped roots) relations links ≡ true → pointwise (link_fits mapped (roots ++ one ∷ [])) relations links ≡ true
pointwise_grown mapped roots one [] [] h = refl
pointwise_grown mapped roots one [] (link ∷ links) h = absurd cc
pointwise_grown mapped roots one (relation ∷ relations) [] h = absurd cc
pointwise_grown mapped roots one (relation ∷ relations) (link ∷ links) h =
    let parts = and_parts (link_fits mapped roots relation link) (pointwise (link_fits mapped roots) relations links) h in
    and_from (link_fits mapped (roots ++ one ∷ []) relation link) (pointwise (link_fits mapped (roots ++ one ∷ [])) relations links)
    (held_grown roots (root_of mapped relation.target) one relation.many link parts.0) (pointwise_grown mapped roots one relations links parts.1)

pub links_grown : (mapped : Mapped) (roots : List ClassId) (one : ClassId) (object : Object) → links_fit mapped roots object ≡ true → links_fit mapped (roots ++ one ∷ []) object ≡ true
links_grown mapped roots one object h = pointwise_grown mapped roots one (relations_of mapped object.class) object.links h

pub links_fresh : (mapped : Mapped) (roots : List ClassId) (relations : List Relation) → pointwise (link_fits mapped roots) relations (map (λ relation. Unset) relations) ≡ true
links_fresh mapped roots relations = pointwise_made (link_fits mapped roots) relations Unset (λ relation. refl)

-- the same links of the same class
pub links_same : (mapped : Mapped) (roots : List ClassId) (old new : Object) → new.class ≡ old.class → new.links ≡ old.links → links_fit mapped roots old ≡ true → links_fit mapped roots new ≡ true
links_same mapped roots old new class links h =
    ap (λ (c : ClassId). pointwise (link_fits mapped roots) (relations_of mapped c) new.links) class
    ∙ ap (λ (ls : List Link). pointwise (link_fits mapped roots) (relations_of mapped old.class) ls) links
    ∙ h
