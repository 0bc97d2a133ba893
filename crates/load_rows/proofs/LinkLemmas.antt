-- Collections that are filled hold objects of their target's hierarchy.
use Rattle.std.proofs.Common.{◌≡◌, ℕ, zero, suc, ◌-◌, ◌<◌, Bool, true, false, ◌&&◌, ◌||◌, nat_lt, not, cond, List, [], ◌∷◌, length, filter, fold, get_or, Option, None, Some, refl, sym, ap, subst, ◌∙◌, arith}
use Rattle.std.specs.Prelude.{slice_get}
use Rattle.std.specs.List.{All, AllByRecursion, list_all}
use Rattle.std.specs.Map.{values_of}
use Rattle.std.specs.Cmp.Lexicographic.{pointwise}
use Rattle.std.proofs.lemmas.Bool.{and_parts, ltb-true}
use Rattle.std.proofs.lemmas.List.{length-map}
use Rattle.std.proofs.lemmas.List.Elements.{All-from_recursion, recursion_from_All}
use Rattle.std.proofs.lemmas.Map.Views.{All-values-insert_entry}
use Rattle.std.proofs.lemmas.Option.{same_Some, slice_get_within}
use Rattle.base_core.specs.declared.ids.ClassId.{ClassId}
use Rattle.base_core.specs.declared.ids.ObjId.{ObjId}
use Rattle.base_core.specs.declared.ids.RelNo.{RelNo}
use Rattle.base_core.specs.declared.value.Value.{Value}
use Rattle.base_core.specs.Order.{values_cmp}
use Rattle.class_types.specs.declared.mapped.Relation.{Relation}
use Rattle.class_mapping.specs.Mapped.{Mapped, relations_of, root_of}
use Rattle.class_mapping.proofs.Lists.{all_append}
use Rattle.object_arena.specs.declared.object.Link.{Link}
use Rattle.object_arena.specs.declared.object.Link.TheVariants.{Unset, Unloaded, One, Many}
use Rattle.object_arena.specs.declared.object.Object.{Object}
use Rattle.object_arena.specs.Fit.{IsFit, end_fits, held_fit, is_empty, is_of_root, is_root, link_fits, links_fit, no_relation, relation_of}
use Rattle.object_arena.specs.Graph.{Graph, IsObject, object_at, place_of}
use Rattle.keeper_core.specs.declared.notes.Note.TheVariants as note
use Rattle.load_rows.specs.Reading.{identity_key}
use Rattle.load_rows.specs.Links.{collection_of, end_of, in_key_order, link_at, linked, with_key, without}

-- ---- objects of a hierarchy

found_within : (roots : List ClassId) (root : ClassId) (place : ℕ) (found : Option ClassId) → slice_get roots place ≡ found → is_root root found ≡ true → place < length roots
found_within roots root place None e h = absurd cc
found_within roots root place (Some own) e h = slice_get_within roots place own e

object_made : (graph : Graph) (root : ClassId) (object : ObjId) → length graph.roots ≡ length graph.objects → is_of_root graph.roots root object ≡ true → IsObject graph object
object_made graph root object rooted h =
    let parts = and_parts (nat_lt 0 object.0) (is_root root (slice_get graph.roots (place_of object))) h in
    let first : 0 < object.0 = ltb-true 0 object.0 parts.0 in
    let within : object.0 - 1 < length graph.roots = found_within graph.roots root (place_of object) (slice_get graph.roots (place_of object)) refl parts.1 in
    (first, omega (arith, first, within, rooted))

abbrev pub AreOf : List ClassId → ClassId → List ObjId → Type 0
AreOf roots root objects = AllByRecursion (λ object. is_of_root roots root object ≡ true) objects

made_by : (graph : Graph) (root : ClassId) (objects : List ObjId) → length graph.roots ≡ length graph.objects → AreOf graph.roots root objects → AllByRecursion (IsObject graph) objects
made_by graph root [] rooted h = tt
made_by graph root (object ∷ objects) rooted h = (object_made graph root object rooted h.0, made_by graph root objects rooted h.1)

-- they have been made
pub are_made : (mapped : Mapped) (graph : Graph) (root : ClassId) (objects : List ObjId) → IsFit mapped graph → All (λ object. is_of_root graph.roots root object ≡ true) objects → All (IsObject graph) objects
are_made mapped graph root objects fit h =
    let rooted : length graph.roots ≡ length graph.objects = ap (λ (roots : List ClassId). length roots) fit.roots ∙ length-map graph.objects (λ (o : Object). root_of mapped o.class) in
    All-from_recursion (IsObject graph) objects (made_by graph root objects rooted (recursion_from_All (λ object. is_of_root graph.roots root object ≡ true) objects h))

-- ---- the order of keys

fold_all : (P : ObjId → Type 0) (graph : Graph) (entries : List (List Value × ObjId)) (objects : List ObjId) → All P (values_of entries) → AllByRecursion P objects → All P (values_of (fold (with_key graph) entries objects))
fold_all P graph entries [] h g = h
fold_all P graph entries (object ∷ objects) h g =
    fold_all P graph (with_key graph entries object) objects (All-values-insert_entry values_cmp (identity_key graph object) object P entries h g.0) g.1

-- what holds of objects holds of them in the order of their keys
ordered_all : (P : ObjId → Type 0) (graph : Graph) (objects : List ObjId) → All P objects → AllByRecursion P (in_key_order graph objects)
unfolding in_key_order
ordered_all P graph objects h =
    recursion_from_All P (values_of (fold (with_key graph) [] objects)) (fold_all P graph [] objects (λ k d less. absurd (omega (arith, less))) (recursion_from_All P objects h))

-- ---- links

all_true : (test : ObjId → Bool) (objects : List ObjId) → AllByRecursion (λ object. test object ≡ true) objects → list_all test objects ≡ true
all_true test [] h = refl
all_true test (object ∷ objects) h = ap (λ (b : Bool). b && list_all test objects) h.0 ∙ all_true test objects h.1

kept_all : (test keep : ObjId → Bool) (objects : List ObjId) → list_all test objects ≡ true → list_all test (filter keep objects) ≡ true
kept_all test keep [] h = refl
kept_all test keep (object ∷ objects) h = by (keep object) (and_parts (test object) (list_all test objects) h) (kept_all test keep objects)
  where
    by : (b : Bool) → (test object ≡ true) × (list_all test objects ≡ true) → (list_all test objects ≡ true → list_all test (filter keep objects) ≡ true) → list_all test (cond b (object ∷ filter keep objects) (filter keep objects)) ≡ true
    by true parts more = ap (λ (c : Bool). c && list_all test (filter keep objects)) parts.0 ∙ more parts.1
    by false parts more = more parts.1

linked_all : (test : ObjId → Bool) (added removed read : List ObjId) → list_all test added ≡ true → list_all test read ≡ true → list_all test (linked added removed read) ≡ true
linked_all test added removed read h g =
    all_append test (without removed read) (without (without removed read) added) (kept_all test _ read g) (kept_all test _ added h)

collected_by : (roots : List ClassId) (root : ClassId) (many : Bool) (read : List ObjId) (link new : Link) → many ≡ true → held_fit roots root many link ≡ true → list_all (is_of_root roots root) read ≡ true
    → collection_of read link ≡ Some new → held_fit roots root many new ≡ true
collected_by roots root many read (Unloaded added removed) new is fits all e =
    let of : ObjId → Bool = is_of_root roots root in
    let parts = and_parts ((is_empty added && is_empty removed) || many) (list_all of added && list_all of removed) fits in
    let kept = and_parts (list_all of added) (list_all of removed) parts.1 in
    let members : list_all of (linked added removed read) ≡ true = linked_all of added removed read kept.0 all in
    subst (λ (l : Link). held_fit roots root many l ≡ true) (same_Some (Many (linked added removed read) read) new e)
    (ap (λ (b : Bool). b && (list_all of (linked added removed read) && list_all of read)) is
    ∙ ap (λ (b : Bool). b && list_all of read) members ∙ all)
collected_by roots root many read Unset new is fits all e = absurd cc
collected_by roots root many read (One end changed) new is fits all e = absurd cc
collected_by roots root many read (Many members base) new is fits all e = absurd cc

-- a collection that is loaded with objects of its target's hierarchy fits
pub collection_fits : (mapped : Mapped) (graph : Graph) (relation : Relation) (read ordered : List ObjId) (link new : Link) → relation.many ≡ true → link_fits mapped graph.roots relation link ≡ true
    → All (λ object. is_of_root graph.roots (root_of mapped relation.target) object ≡ true) read → ordered ≡ in_key_order graph read → Some new ≡ collection_of ordered link → link_fits mapped graph.roots relation new ≡ true
collection_fits mapped graph relation read ordered link new many fits of is made =
    let root : ClassId = root_of mapped relation.target in
    let all : list_all (is_of_root graph.roots root) ordered ≡ true =
    ap (list_all (is_of_root graph.roots root)) is
    ∙ all_true (is_of_root graph.roots root) (in_key_order graph read) (ordered_all (λ object. is_of_root graph.roots root object ≡ true) graph read of) in
    collected_by graph.roots root relation.many ordered link new many fits all (sym made)

-- what holds of two lists one by one holds at each place
pub pointwise_at : {A B : Type 0} (test : A → B → Bool) (xs : List A) (ys : List B) (i : ℕ) (d : A) (e : B) → i < length xs → pointwise test xs ys ≡ true → test (get_or xs i d) (get_or ys i e) ≡ true
pointwise_at test [] ys i d e less h = absurd (omega (arith, less))
pointwise_at test (x ∷ xs) [] i d e less h = absurd cc
pointwise_at test (x ∷ xs) (y ∷ ys) zero d e less h = (and_parts (test x y) (pointwise test xs ys) h).0
pointwise_at test (x ∷ xs) (y ∷ ys) (suc i) d e less h = pointwise_at test xs ys i d e (omega (arith, less)) (and_parts (test x y) (pointwise test xs ys) h).1

-- a many-to-one link that leads to none, or into its target's hierarchy, fits
pub end_link_fits : (mapped : Mapped) (graph : Graph) (relation : Relation) (end : Option ObjId) (link new : Link) → relation.many ≡ false → end_fits graph.roots (root_of mapped relation.target) end ≡ true → end_of end link ≡ Some new
    → link_fits mapped graph.roots relation new ≡ true
end_link_fits mapped graph relation end (Unloaded added removed) new one fits e =
    subst (λ (l : Link). link_fits mapped graph.roots relation l ≡ true) (same_Some (One end false) new e)
    (ap (λ (b : Bool). not b && end_fits graph.roots (root_of mapped relation.target) end) one ∙ fits)
end_link_fits mapped graph relation end Unset new one fits e = absurd cc
end_link_fits mapped graph relation end (One other changed) new one fits e = absurd cc
end_link_fits mapped graph relation end (Many members base) new one fits e = absurd cc

-- a link of an object fits its relationship
pub own_link_fits : (mapped : Mapped) (graph : Graph) (object : ObjId) (own : Object) (place : RelNo) → own ≡ object_at graph object → place.0 < length (relations_of mapped (object_at graph object).class)
    → links_fit mapped graph.roots own ≡ true → link_fits mapped graph.roots (relation_of mapped (object_at graph object).class place) (link_at graph object place) ≡ true
own_link_fits mapped graph object own place is less fits =
    let there : links_fit mapped graph.roots (object_at graph object) ≡ true = ap (links_fit mapped graph.roots) (sym is) ∙ fits in
    pointwise_at (link_fits mapped graph.roots) (relations_of mapped (object_at graph object).class) (object_at graph object).links place.0 no_relation Unset less there
