-- A closure, and what is reached from several objects, is what all closed sets have.
use Rattle.std.proofs.Common.{◌≡◌, ◌≢◌, ℕ, ◌+◌, ◌<◌, ◌≤◌, Bool, true, false, ◌&&◌, ◌||◌, cond, List, [], ◌∷◌, length, map, zero, suc, Result, Ok, Err, IfOk, refl, sym, ◌∙◌, subst, ⊎_elim, arith}
use Rattle.std.specs.Prelude.{not, ◌==◌}
use Rattle.std.specs.List.{All, filter, list_all, range_with_len}
use Rattle.std.proofs.lemmas.Bool.{and_from, and_parts, cases_eq, eq-eqb, eqb-true, or_left, or_right}
use Rattle.std.proofs.lemmas.List.Folds.{list_all-append, list_all-map}
use Rattle.base_core.specs.declared.ids.ObjId.{ObjId}
use Rattle.base_core.specs.Ascending.{IsAscending, IsBelow}
use Rattle.class_mapping.specs.Mapped.{Mapped}
use Rattle.object_arena.specs.Graph.{Graph, IsObject}
use Rattle.object_arena.specs.Identity.{id_of_place}
use Rattle.cascades.specs.declared.closures.Flag.{Flag}
use Rattle.cascades.specs.Closures.{IsClosed, IsClosure, closure_of, is_among, is_closed, linked_objects, sublists}
use Rattle.cascades.specs.Reaching.{IsReach, reach_of}
use Rattle.cascades.specs.Walks.{id_of_number}
use Rattle.cascades.proofs.ClosureLemmas.{at_each, from_each}
use Rattle.cascades.proofs.EndLemmas.{all_made, is_made, made_is}
use Rattle.cascades.proofs.OneLemmas.{one_list}
use Rattle.cascades.proofs.WalkLemmas.{or_cases}

-- ---- the objects of a graph, in order

abbrev ids : ℕ → ℕ → List ObjId
ids k n = map id_of_place (range_with_len k n)

below_ids : (x : ObjId) (k n : ℕ) → x.0 < k + 1 → IsBelow x (ids k n)
below_ids x k zero less = tt
below_ids x k (suc n) less = (less, below_ids x (k + 1) n (omega (arith, less)))

rising_ids : (k n : ℕ) → IsAscending (ids k n)
rising_ids k zero = tt
rising_ids k (suc n) = (below_ids (id_of_place k) (k + 1) n (omega arith), rising_ids (k + 1) n)

among_ids : (object : ObjId) (k n : ℕ) → k < object.0 → object.0 ≤ k + n → is_among (ids k n) object ≡ true
among_ids object k zero above within = absurd (omega (arith, above, within))
among_ids object k (suc n) above within =
    ⊎_elim
    (λ (same : object.0 ≡ k + 1). or_left (object.0 == k + 1) (is_among (ids (k + 1) n) object) (eq-eqb object.0 (k + 1) same))
    (λ (other : object.0 ≢ k + 1). or_right (object.0 == k + 1) (is_among (ids (k + 1) n) object) (among_ids object (k + 1) n (omega (arith, above, other)) (omega (arith, within))))
    (cases_eq object.0 (k + 1))

-- ---- parts of a list

pub below_part : (p : ObjId → Bool) (x : ObjId) (xs : List ObjId) → IsBelow x xs → IsBelow x (filter p xs)
below_part p x [] below = tt
below_part p x (y ∷ ys) below = by (p y) (below_part p x ys below.1)
  where
    by : (b : Bool) → IsBelow x (filter p ys) → IsBelow x (cond b (y ∷ filter p ys) (filter p ys))
    by true rest = (below.0, rest)
    by false rest = rest

pub rising_part : (p : ObjId → Bool) (xs : List ObjId) → IsAscending xs → IsAscending (filter p xs)
rising_part p [] rising = tt
rising_part p (x ∷ xs) rising = by (p x) (rising_part p xs rising.1)
  where
    by : (b : Bool) → IsAscending (filter p xs) → IsAscending (cond b (x ∷ filter p xs) (filter p xs))
    by true rest = (below_part p x xs rising.0, rest)
    by false rest = rest

passes_as : (p : ObjId → Bool) (object x : ObjId) → (object.0 == x.0) ≡ true → p x ≡ true → p object ≡ true
passes_as p object x same h = subst (λ (n : ℕ). p (id_of_number n) ≡ true) (sym (eqb-true object.0 x.0 same)) h

-- what is among a part passes
pub part_passes : (p : ObjId → Bool) (xs : List ObjId) (object : ObjId) → is_among (filter p xs) object ≡ true → p object ≡ true
part_passes p [] object among = absurd cc
part_passes p (x ∷ xs) object among = by (p x) refl (λ later. part_passes p xs object later) among
  where
    by : (b : Bool) → p x ≡ b → (is_among (filter p xs) object ≡ true → p object ≡ true) → is_among (cond b (x ∷ filter p xs) (filter p xs)) object ≡ true → p object ≡ true
    by true passes rest h = ⊎_elim (λ (same : (object.0 == x.0) ≡ true). passes_as p object x same passes) rest (or_cases (object.0 == x.0) (is_among (filter p xs) object) h)
    by false fails rest h = rest h

-- what is among the whole and passes is among the part
part_has : (p : ObjId → Bool) (xs : List ObjId) (object : ObjId) → is_among xs object ≡ true → p object ≡ true → is_among (filter p xs) object ≡ true
part_has p [] object among h = absurd cc
part_has p (x ∷ xs) object among h =
    ⊎_elim (λ (same : (object.0 == x.0) ≡ true). first (p x) (passes_as p x object (turned same) h) same)
    (λ (later : is_among xs object ≡ true). rest (p x) (part_has p xs object later h)) (or_cases (object.0 == x.0) (is_among xs object) among)
  where
    turned : (object.0 == x.0) ≡ true → (x.0 == object.0) ≡ true
    turned same = eq-eqb x.0 object.0 (sym (eqb-true object.0 x.0 same))

    first : (b : Bool) → b ≡ true → (object.0 == x.0) ≡ true → is_among (cond b (x ∷ filter p xs) (filter p xs)) object ≡ true
    first true passes same = or_left (object.0 == x.0) (is_among (filter p xs) object) same
    first false passes same = absurd cc

    rest : (b : Bool) → is_among (filter p xs) object ≡ true → is_among (cond b (x ∷ filter p xs) (filter p xs)) object ≡ true
    rest true later = or_right (object.0 == x.0) (is_among (filter p xs) object) later
    rest false later = later

-- ---- all parts of a list

-- what holds of all parts holds of each
of_part : (q : List ObjId → Bool) (p : ObjId → Bool) (xs : List ObjId) → list_all q (sublists xs) ≡ true → q (filter p xs) ≡ true
of_part q p [] all = (and_parts (q []) true all).0
of_part q p (x ∷ xs) all = by (p x) (of_part (λ some. q (x ∷ some)) p xs both.0) (of_part q p xs both.1)
  where
    both : (list_all (λ some. q (x ∷ some)) (sublists xs) ≡ true) × (list_all q (sublists xs) ≡ true)
    both =
        let parts = and_parts (list_all q (map (λ some. x ∷ some) (sublists xs))) (list_all q (sublists xs)) (sym (list_all-append q (map (λ some. x ∷ some) (sublists xs)) (sublists xs)) ∙ all) in
        (sym (list_all-map q (λ some. x ∷ some) (sublists xs)) ∙ parts.0, parts.1)

    by : (b : Bool) → q (x ∷ filter p xs) ≡ true → q (filter p xs) ≡ true → q (cond b (x ∷ filter p xs) (filter p xs)) ≡ true
    by true with_it without_it = with_it
    by false with_it without_it = without_it

of_all : (q : List ObjId → Bool) (lists : List (List ObjId)) → ((some : List ObjId) → q some ≡ true) → list_all q lists ≡ true
of_all q [] each = refl
of_all q (some ∷ lists) each = and_from (q some) (list_all q lists) (each some) (of_all q lists each)

-- ---- the closure

turned_not : (a b : Bool) → (not a || b) ≡ true → a ≡ true → b ≡ true
turned_not true b h is = h
turned_not false b h is = absurd cc

beside_if : (a b : Bool) → (a ≡ true → b ≡ true) → (not a || b) ≡ true
beside_if true b h = h refl
beside_if false b h = refl

-- what is in all lists that pass a test is the least of them
least_is : (graph : Graph) (passes : List ObjId → Bool) (xs : List ObjId) → IsAscending xs → All (IsObject graph) xs → passes xs ≡ true → ((some : List ObjId) → passes some ≡ true → list_all (is_among some) xs ≡ true)
    → xs ≡ filter (λ other. list_all (λ objects. not (passes objects) || is_among objects other) (sublists (map id_of_place (range_with_len 0 (length graph.objects))))) (map id_of_place (range_with_len 0 (length graph.objects)))
least_is graph passes xs ascending objects passed least = one_list xs (filter in_all all) ascending (rising_part in_all all rising) there back
  where
    all : List ObjId
    all = ids 0 (length graph.objects)

    rising : IsAscending all
    rising = rising_ids 0 (length graph.objects)

    has : ObjId → List ObjId → Bool
    has other some = not (passes some) || is_among some other

    in_all : ObjId → Bool
    in_all other = list_all (has other) (sublists all)

    made : (other : ObjId) → is_among xs other ≡ true → is_among all other ≡ true
    made other among =
        let it : IsObject graph other = made_is graph other (at_each (is_made graph) xs other (all_made graph xs objects) among) in
        among_ids other 0 (length graph.objects) it.0 (omega (arith, it.1))

    itself : filter (is_among xs) all ≡ xs
    itself =
        one_list (filter (is_among xs) all) xs (rising_part (is_among xs) all rising) ascending
        (λ other among. part_passes (is_among xs) all other among)
        (λ other among. part_has (is_among xs) all other (made other among) among)

    there : (other : ObjId) → is_among xs other ≡ true → is_among (filter in_all all) other ≡ true
    there other among =
        part_has in_all all other (made other among)
        (of_all (has other) (sublists all) (λ some. beside_if (passes some) (is_among some other) (λ pass. at_each (is_among some) xs other (least some pass) among)))

    back : (other : ObjId) → is_among (filter in_all all) other ≡ true → is_among xs other ≡ true
    back other among =
        let beside : has other xs ≡ true =
        subst (λ (s : List ObjId). has other s ≡ true) itself (of_part (has other) (is_among xs) all (part_passes in_all all other among)) in
        turned_not (passes xs) (is_among xs other) beside passed

-- a closed set is a closed list, and the other way round
closed_list : (flag : Flag) (mapped : Mapped) (graph : Graph) (xs : List ObjId) → IsClosed flag mapped graph (is_among xs) → is_closed flag mapped graph xs ≡ true
closed_list flag mapped graph xs closed = from_each (λ it. list_all (is_among xs) (linked_objects flag mapped graph it)) xs (λ one inside. closed one inside)

list_closed : (flag : Flag) (mapped : Mapped) (graph : Graph) (xs : List ObjId) → is_closed flag mapped graph xs ≡ true → IsClosed flag mapped graph (is_among xs)
list_closed flag mapped graph xs closed one inside = at_each (λ it. list_all (is_among xs) (linked_objects flag mapped graph it)) xs one closed inside

-- every object of a closure is in each closed list with the object, and what is in all of these is in the closure
pub closure_is : (flag : Flag) (mapped : Mapped) (graph : Graph) (object : ObjId) (xs : List ObjId) → IsClosure flag mapped graph object xs → xs ≡ closure_of flag mapped graph object
unfolding closure_of
closure_is flag mapped graph object xs is =
    least_is graph (λ objects. is_among objects object && is_closed flag mapped graph objects) xs is.ascending is.objects
    (and_from (is_among xs object) (is_closed flag mapped graph xs) is.has (closed_list flag mapped graph xs is.closed))
    (λ some both. let parts = and_parts (is_among some object) (is_closed flag mapped graph some) both in is.least (is_among some) parts.0 (list_closed flag mapped graph some parts.1))

pub if_closure : {E : Type 0} (flag : Flag) (mapped : Mapped) (graph : Graph) (object : ObjId) (r : Result (List ObjId) E) → IfOk r (IsClosure flag mapped graph object) → IfOk r (λ set. set ≡ closure_of flag mapped graph object)
if_closure flag mapped graph object (Ok xs) is = closure_is flag mapped graph object xs is
if_closure flag mapped graph object (Err e) is = tt

-- ---- what is reached from several objects

pub reach_is : (flag : Flag) (mapped : Mapped) (graph : Graph) (starts xs : List ObjId) → IsReach flag mapped graph starts xs → xs ≡ reach_of flag mapped graph starts
unfolding reach_of
reach_is flag mapped graph starts xs is =
    least_is graph (λ objects. list_all (is_among objects) starts && is_closed flag mapped graph objects) xs is.ascending is.objects
    (and_from (list_all (is_among xs) starts) (is_closed flag mapped graph xs) is.has (closed_list flag mapped graph xs is.closed))
    (λ some both. let parts = and_parts (list_all (is_among some) starts) (is_closed flag mapped graph some) both in is.least (is_among some) parts.0 (list_closed flag mapped graph some parts.1))

pub if_reach : {E : Type 0} (flag : Flag) (mapped : Mapped) (graph : Graph) (starts : List ObjId) (r : Result (List ObjId) E) → IfOk r (IsReach flag mapped graph starts) → IfOk r (λ set. set ≡ reach_of flag mapped graph starts)
if_reach flag mapped graph starts (Ok xs) is = reach_is flag mapped graph starts xs is
if_reach flag mapped graph starts (Err e) is = tt

-- what is reached from one object is its closure
reach_one : (flag : Flag) (mapped : Mapped) (graph : Graph) (object : ObjId) (xs : List ObjId) → IsReach flag mapped graph (object ∷ []) xs → IsClosure flag mapped graph object xs
reach_one flag mapped graph object xs is = record {
  ascending = is.ascending;
  has = (and_parts (is_among xs object) true is.has).0;
  closed = is.closed;
  least = λ inside begins closed. is.least inside (and_from (inside object) true begins refl) closed;
  objects = is.objects;
}

pub if_one : {E : Type 0} (flag : Flag) (mapped : Mapped) (graph : Graph) (starts : List ObjId) (object : ObjId) (r : Result (List ObjId) E) → starts ≡ object ∷ [] → IfOk r (IsReach flag mapped graph starts) → IfOk r (IsClosure flag mapped graph object)
if_one flag mapped graph starts object (Ok xs) one is = reach_one flag mapped graph object xs (subst (λ (os : List ObjId). IsReach flag mapped graph os xs) one is)
if_one flag mapped graph starts object (Err e) one is = tt
