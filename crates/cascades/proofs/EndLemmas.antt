-- The ends of links: all of them are objects of the graph.
use Rattle.std.proofs.Common.{◌≡◌, ℕ, ◌+◌, ◌<◌, ◌≤◌, Bool, true, false, ◌&&◌, ◌||◌, List, [], ◌∷◌, ◌++◌, length, get_or, drop, min, suc, Option, None, Some, refl, sym, ap, ◌∙◌, ⊎_elim, ◌⊎◌, inl, inr, arith, append_assoc}
use Rattle.std.specs.Prelude.{nat_lt, nat_le, not, slice_get}
use Rattle.std.specs.List.{All, list_all}
use Rattle.std.specs.Cmp.Lexicographic.{pointwise}
use Rattle.std.proofs.Math.Seq.{drop-cons}
use Rattle.std.proofs.lemmas.Bool.{and_from, and_parts, cases_lt}
use Rattle.std.proofs.lemmas.Bool.Decides.{nat_tests}
use Rattle.std.proofs.lemmas.List.{append-nil, drop_all, length-map}
use Rattle.std.proofs.lemmas.List.Folds.{list_all-append}
use Rattle.std.proofs.lemmas.Option.{slice_get_within}
use Rattle.base_core.specs.declared.ids.ClassId.{ClassId}
use Rattle.base_core.specs.declared.ids.ObjId.{ObjId}
use Rattle.class_types.specs.declared.mapped.Relation.{Relation}
use Rattle.class_mapping.specs.Mapped.{Mapped, relations_of, root_of}
use Rattle.object_arena.specs.declared.object.Link.{Link}
use Rattle.object_arena.specs.declared.object.Link.TheVariants.{Unset, Unloaded, One, Many}
use Rattle.object_arena.specs.declared.object.Object.{Object}
use Rattle.object_arena.specs.Graph.{Graph, IsObject, object_at, place_of}
use Rattle.object_arena.specs.Fit.{IsFit, held_fit, is_empty, is_of_root, is_root, link_fits}
use Rattle.object_arena.proofs.FitLemmas.{fit_links}
use Rattle.cascades.specs.declared.closures.Flag.{Flag}
use Rattle.cascades.specs.Closures.{ends_along, ends_of, ends_with, has_flag, linked_objects}

-- ---- a loop over relationships and links

pub ends_more : (flag : Flag) (relations : List Relation) (links : List Link) (place : ℕ) (relation : Relation) (link : Link) (ends new total : List ObjId)
    → place < length relations → place < length links → relation ≡ get_or relations place relation → link ≡ get_or links place link
    → ends ++ ends_along flag (drop place relations) (drop place links) ≡ total → new ≡ ends ++ ends_with (has_flag flag relation.cascade) link
    → new ++ ends_along flag (drop (place + 1) relations) (drop (place + 1) links) ≡ total
ends_more flag relations links place relation link ends new total less long is_relation is_link so_far is =
    let next : suc place ≡ place + 1 = omega arith in
    let here : drop place relations ≡ relation ∷ drop (place + 1) relations = drop-cons relations place relation less ∙ ap (λ (r : Relation). r ∷ drop (suc place) relations) (sym is_relation) ∙ ap (λ (p : ℕ). relation ∷ drop p relations) next in
    let there : drop place links ≡ link ∷ drop (place + 1) links = drop-cons links place link long ∙ ap (λ (l : Link). l ∷ drop (suc place) links) (sym is_link) ∙ ap (λ (p : ℕ). link ∷ drop p links) next in
    ap (λ (xs : List ObjId). xs ++ ends_along flag (drop (place + 1) relations) (drop (place + 1) links)) is
    ∙ append_assoc ends (ends_with (has_flag flag relation.cascade) link) (ends_along flag (drop (place + 1) relations) (drop (place + 1) links))
    ∙ ap (λ (ls : List Link). ends ++ ends_along flag (relation ∷ drop (place + 1) relations) ls) (sym there)
    ∙ ap (λ (rs : List Relation). ends ++ ends_along flag rs (drop place links)) (sym here)
    ∙ so_far

none_left : (flag : Flag) (relations : List Relation) (links : List Link) (place : ℕ) → (length relations ≤ place) ⊎ (length links ≤ place) → ends_along flag (drop place relations) (drop place links) ≡ []
none_left flag relations links place ended =
    ⊎_elim
    (λ (short : length relations ≤ place). ap (λ (rs : List Relation). ends_along flag rs (drop place links)) (drop_all place relations short))
    (λ (short : length links ≤ place). ap (λ (ls : List Link). ends_along flag (drop place relations) ls) (drop_all place links short) ∙ no_links flag (drop place relations))
    ended
  where
    no_links : (flag : Flag) (relations : List Relation) → ends_along flag relations [] ≡ []
    no_links flag [] = refl
    no_links flag (relation ∷ relations) = refl

-- where a loop over both lists ends, one of them has ended
pub one_ended : (a b place : ℕ) → min a b ≤ place → (a ≤ place) ⊎ (b ≤ place)
one_ended a b place ended = ⊎_elim (λ (inside : place < a). inr (omega arith)) (λ (past : a ≤ place). inl past) (cases_lt place a)

pub ends_all : (flag : Flag) (relations : List Relation) (links : List Link) (place : ℕ) (ends total : List ObjId)
    → (length relations ≤ place) ⊎ (length links ≤ place) → ends ++ ends_along flag (drop place relations) (drop place links) ≡ total → ends ≡ total
ends_all flag relations links place ends total ended so_far =
    sym (append-nil ends) ∙ ap (λ (xs : List ObjId). ends ++ xs) (sym (none_left flag relations links place ended)) ∙ so_far

-- ---- what is held are objects

-- the object has been made
abbrev pub is_made : Graph → ObjId → Bool
is_made graph object = nat_lt 0 object.0 && nat_le object.0 (length graph.objects)

pub made_is : (graph : Graph) (object : ObjId) → is_made graph object ≡ true → IsObject graph object
made_is graph object h =
    let parts = and_parts (nat_lt 0 object.0) (nat_le object.0 (length graph.objects)) h in
    let above : nat_lt 0 object.0 ≡ true = parts.0 in
    let inside : nat_le object.0 (length graph.objects) ≡ true = parts.1 in
    (grind (arith, nat_tests), grind (arith, nat_tests))

pub is_is_made : (graph : Graph) (object : ObjId) → IsObject graph object → is_made graph object ≡ true
is_is_made graph object within =
    let above : 0 < object.0 = within.0 in
    let inside : object.0 ≤ length graph.objects = within.1 in
    and_from (nat_lt 0 object.0) (nat_le object.0 (length graph.objects)) (grind (arith, nat_tests)) (grind (arith, nat_tests))

pub all_made : (graph : Graph) (objects : List ObjId) → All (IsObject graph) objects → list_all (is_made graph) objects ≡ true
all_made graph [] made = refl
all_made graph (object ∷ objects) made =
    and_from (is_made graph object) (list_all (is_made graph) objects) (is_is_made graph object (made 0 object (omega arith))) (all_made graph objects (λ i d less. made (suc i) d (omega (arith, less))))

in_roots : (roots : List ClassId) (root : ClassId) (place : ℕ) (found : Option ClassId) → slice_get roots place ≡ found → is_root root found ≡ true → place < length roots
in_roots roots root place None is h = absurd cc
in_roots roots root place (Some own) is h = slice_get_within roots place own is

held_is : (graph : Graph) (root : ClassId) (object : ObjId) → length graph.roots ≡ length graph.objects → is_of_root graph.roots root object ≡ true → is_made graph object ≡ true
held_is graph root object rooted h =
    let parts = and_parts (nat_lt 0 object.0) (is_root root (slice_get graph.roots (place_of object))) h in
    let above : nat_lt 0 object.0 ≡ true = parts.0 in
    let inside : place_of object < length graph.roots = in_roots graph.roots root (place_of object) (slice_get graph.roots (place_of object)) refl parts.1 in
    let positive : 0 < object.0 = grind (arith, nat_tests) in
    is_is_made graph object (positive, omega (arith, rooted))

all_held : (graph : Graph) (root : ClassId) (objects : List ObjId) → length graph.roots ≡ length graph.objects → list_all (is_of_root graph.roots root) objects ≡ true → list_all (is_made graph) objects ≡ true
all_held graph root [] rooted h = refl
all_held graph root (object ∷ objects) rooted h =
    let parts = and_parts (is_of_root graph.roots root object) (list_all (is_of_root graph.roots root) objects) h in
    and_from (is_made graph object) (list_all (is_made graph) objects) (held_is graph root object rooted parts.0) (all_held graph root objects rooted parts.1)

link_held : (graph : Graph) (root : ClassId) (many : Bool) (link : Link) → length graph.roots ≡ length graph.objects → held_fit graph.roots root many link ≡ true → list_all (is_made graph) (ends_of link) ≡ true
link_held graph root many Unset rooted h = refl
link_held graph root many (Unloaded added removed) rooted h =
    let parts = and_parts ((is_empty added && is_empty removed) || many) (list_all (is_of_root graph.roots root) added && list_all (is_of_root graph.roots root) removed) h in
    all_held graph root added rooted (and_parts (list_all (is_of_root graph.roots root) added) (list_all (is_of_root graph.roots root) removed) parts.1).0
link_held graph root many (One None changed) rooted h = refl
link_held graph root many (One (Some end) changed) rooted h =
    and_from (is_made graph end) true (held_is graph root end rooted (and_parts (not many) (is_of_root graph.roots root end) h).1) refl
link_held graph root many (Many members base) rooted h =
    let parts = and_parts many (list_all (is_of_root graph.roots root) members && list_all (is_of_root graph.roots root) base) h in
    all_held graph root members rooted (and_parts (list_all (is_of_root graph.roots root) members) (list_all (is_of_root graph.roots root) base) parts.1).0

with_held : (graph : Graph) (root : ClassId) (many goes_on : Bool) (link : Link) → length graph.roots ≡ length graph.objects → held_fit graph.roots root many link ≡ true → list_all (is_made graph) (ends_with goes_on link) ≡ true
with_held graph root many true link rooted h = link_held graph root many link rooted h
with_held graph root many false link rooted h = refl

along_held : (flag : Flag) (mapped : Mapped) (graph : Graph) (relations : List Relation) (links : List Link) → length graph.roots ≡ length graph.objects → pointwise (link_fits mapped graph.roots) relations links ≡ true → list_all (is_made graph) (ends_along flag relations links) ≡ true
along_held flag mapped graph [] links rooted h = refl
along_held flag mapped graph (relation ∷ relations) [] rooted h = refl
along_held flag mapped graph (relation ∷ relations) (link ∷ links) rooted h =
    let parts = and_parts (link_fits mapped graph.roots relation link) (pointwise (link_fits mapped graph.roots) relations links) h in
    list_all-append (is_made graph) (ends_with (has_flag flag relation.cascade) link) (ends_along flag relations links)
    ∙ and_from (list_all (is_made graph) (ends_with (has_flag flag relation.cascade) link)) (list_all (is_made graph) (ends_along flag relations links))
    (with_held graph (root_of mapped relation.target) relation.many (has_flag flag relation.cascade) link rooted parts.0)
    (along_held flag mapped graph relations links rooted parts.1)

-- an object is linked to objects alone
pub linked_made : (flag : Flag) (mapped : Mapped) (graph : Graph) (object : ObjId) → IsFit mapped graph → IsObject graph object → list_all (is_made graph) (linked_objects flag mapped graph object) ≡ true
unfolding linked_objects
linked_made flag mapped graph object fit within =
    along_held flag mapped graph (relations_of mapped (object_at graph object).class) (object_at graph object).links
    (ap (λ (roots : List ClassId). length roots) fit.roots ∙ length-map graph.objects (λ (o : Object). root_of mapped o.class)) (fit_links mapped graph object fit within)
