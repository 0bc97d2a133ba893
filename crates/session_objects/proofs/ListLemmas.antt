-- Loops over objects, and the objects that come in with one.
use Rattle.std.proofs.Common.{◌≡◌, ℕ, ◌+◌, ◌<◌, ◌≤◌, Bool, true, false, ◌||◌, cond, List, [], ◌∷◌, ◌++◌, length, get_or, drop, zero, suc, refl, sym, ap, ◌∙◌, subst, append_assoc, append-nil, arith}
use Rattle.std.specs.Prelude.{not, ◌==◌}
use Rattle.std.specs.List.{All, filter, list_any}
use Rattle.std.proofs.lemmas.Bool.{eq-eqb, eqb-true}
use Rattle.std.proofs.lemmas.List.{drop_all, drop_more}
use Rattle.std.proofs.lemmas.List.Elements.{filter-append}
use Rattle.base_core.specs.declared.ids.ObjId.{ObjId}
use Rattle.base_core.specs.Ascending.{IsAscending, IsBelow}
use Rattle.cascades.specs.declared.closures.Flag.TheVariants.{SaveUpdate}
use Rattle.cascades.specs.Closures.{IsClosure, closure_of, is_among}
use Rattle.cascades.proofs.LeastLemmas.{part_passes, rising_part}
use Rattle.class_mapping.specs.Mapped.{Mapped}
use Rattle.object_arena.specs.Graph.{Graph, IsObject, object_at}
use Rattle.object_parts.specs.Sides.{without}
use Rattle.session_objects.specs.Taking.{AreMade, AreOnce, coming_objects, is_inside, outsiders}
use Rattle.session_objects.proofs.OutsiderLemmas.{outsiders_once}

-- ---- a test of each object

any_from : (p : ObjId → Bool) (xs : List ObjId) (i : ℕ) (d : ObjId) → i < length xs → list_any p (drop i xs) ≡ (p (get_or xs i d) || list_any p (drop (i + 1) xs))
any_from p xs i d less = ap (list_any p) (drop_more xs i d less)

pub any_passed : (p : ObjId → Bool) (xs : List ObjId) (i : ℕ) (d : ObjId) (whole : Bool) → i < length xs → p (get_or xs i d) ≡ false → list_any p (drop i xs) ≡ whole → list_any p (drop (i + 1) xs) ≡ whole
any_passed p xs i d whole less fails so_far = sym (any_from p xs i d less ∙ ap (λ (b : Bool). b || list_any p (drop (i + 1) xs)) fails) ∙ so_far

pub any_found : (p : ObjId → Bool) (xs : List ObjId) (i : ℕ) (d : ObjId) (whole : Bool) → i < length xs → p (get_or xs i d) ≡ true → list_any p (drop i xs) ≡ whole → true ≡ whole
any_found p xs i d whole less passes so_far = sym (any_from p xs i d less ∙ ap (λ (b : Bool). b || list_any p (drop (i + 1) xs)) passes) ∙ so_far

pub any_none : (p : ObjId → Bool) (xs : List ObjId) (i : ℕ) (whole : Bool) → length xs ≤ i → list_any p (drop i xs) ≡ whole → false ≡ whole
any_none p xs i whole ended so_far = sym (ap (list_any p) (drop_all i xs ended)) ∙ so_far

-- an object of a list is made
pub made_at : (graph : Graph) (xs : List ObjId) (i : ℕ) (d : ObjId) → AreMade graph xs → i < length xs → IsObject graph (get_or xs i d)
made_at graph [] i d made less = absurd (omega (arith, less))
made_at graph (y ∷ xs) zero d made less = made.0
made_at graph (y ∷ xs) (suc i) d made less = made_at graph xs i d made.1 (omega (arith, less))

-- ---- the others of a list

filter_from : (p : ObjId → Bool) (xs : List ObjId) (i : ℕ) (d : ObjId) → i < length xs → filter p (drop i xs) ≡ cond (p (get_or xs i d)) (get_or xs i d ∷ []) [] ++ filter p (drop (i + 1) xs)
filter_from p xs i d less = ap (filter p) (drop_more xs i d less) ∙ by (p (get_or xs i d))
  where
    rest : List ObjId
    rest = filter p (drop (i + 1) xs)

    by : (b : Bool) → cond b (get_or xs i d ∷ rest) rest ≡ cond b (get_or xs i d ∷ []) [] ++ rest
    by true = refl
    by false = refl

pub other_more : (graph : Graph) (xs : List ObjId) (object : ObjId) (i : ℕ) (d : ObjId) (now new whole : List ObjId) → i < length xs → new ≡ now ++ outsiders graph (cond (not ((get_or xs i d).0 == object.0)) (get_or xs i d ∷ []) [])
    → now ++ outsiders graph (without (drop i xs) object) ≡ whole → new ++ outsiders graph (without (drop (i + 1) xs) object) ≡ whole
other_more graph xs object i d now new whole less put so_far =
    let p : ObjId → Bool = λ other. not (other.0 == object.0) in
    let outside : ObjId → Bool = λ other. not (is_inside (object_at graph other).state) in
    let here : List ObjId = cond (p (get_or xs i d)) (get_or xs i d ∷ []) [] in
    ap (λ (list : List ObjId). list ++ filter outside (filter p (drop (i + 1) xs))) put
    ∙ append_assoc now (filter outside here) (filter outside (filter p (drop (i + 1) xs)))
    ∙ ap (λ (list : List ObjId). now ++ list) (sym (filter-append outside here (filter p (drop (i + 1) xs))))
    ∙ ap (λ (list : List ObjId). now ++ filter outside list) (sym (filter_from p xs i d less)) ∙ so_far

pub other_all : (graph : Graph) (xs : List ObjId) (object : ObjId) (i : ℕ) (now whole : List ObjId) → length xs ≤ i → now ++ outsiders graph (without (drop i xs) object) ≡ whole → now ≡ whole
other_all graph xs object i now whole ended so_far =
    sym (append-nil now) ∙ sym (ap (λ (left : List ObjId). now ++ outsiders graph (without left object)) (drop_all i xs ended)) ∙ so_far

-- the one object is first
pub others_begin : (graph : Graph) (xs : List ObjId) (object : ObjId) (empty now : List ObjId) → empty ≡ [] → now ≡ empty ++ outsiders graph (object ∷ []) → now ++ outsiders graph (without xs object) ≡ outsiders graph (object ∷ without xs object)
others_begin graph xs object empty now none put =
    let outside : ObjId → Bool = λ other. not (is_inside (object_at graph other).state) in
    ap (λ (list : List ObjId). list ++ outsiders graph (without xs object)) (put ∙ ap (λ (list : List ObjId). list ++ outsiders graph (object ∷ [])) none)
    ∙ sym (filter-append outside (object ∷ []) (without xs object))

-- ---- the objects that come in are told once

below_none : (x : ObjId) (xs : List ObjId) → IsBelow x xs → is_among xs x ≡ false
below_none x [] below = refl
below_none x (y ∷ ys) below = by (x.0 == y.0) refl (below_none x ys below.1)
  where
    by : (b : Bool) → (x.0 == y.0) ≡ b → is_among ys x ≡ false → (b || is_among ys x) ≡ false
    by true same rest = let e : x.0 ≡ y.0 = eqb-true x.0 y.0 same in let less : x.0 < y.0 = below.0 in absurd (omega (arith, e, less))
    by false same rest = rest

rising_once : (graph : Graph) (xs : List ObjId) → AreMade graph xs → IsAscending xs → AreOnce graph xs
rising_once graph [] made rising = tt
rising_once graph (x ∷ xs) made rising = (made.0, below_none x xs rising.0, rising_once graph xs made.1 rising.1)

made_part : (graph : Graph) (p : ObjId → Bool) (xs : List ObjId) → AreMade graph xs → AreMade graph (filter p xs)
made_part graph p [] made = tt
made_part graph p (x ∷ xs) made = by (p x) (made_part graph p xs made.1)
  where
    by : (b : Bool) → AreMade graph (filter p xs) → AreMade graph (cond b (x ∷ filter p xs) (filter p xs))
    by true rest = (made.0, rest)
    by false rest = rest

all_made : (graph : Graph) (xs : List ObjId) → All (IsObject graph) xs → AreMade graph xs
all_made graph [] made = tt
all_made graph (x ∷ xs) made = (made 0 x (omega arith), all_made graph xs (λ i d less. made (suc i) d (omega (arith, less))))

not_itself : (objects : List ObjId) (object : ObjId) → is_among (without objects object) object ≡ false
not_itself objects object = by (is_among (without objects object) object) refl
  where
    by : (b : Bool) → is_among (without objects object) object ≡ b → b ≡ false
    by true among =
        let passes : not (object.0 == object.0) ≡ true = part_passes (λ (other : ObjId). not (other.0 == object.0)) objects object among in
        let fails : not (object.0 == object.0) ≡ false = ap not (eq-eqb object.0 object.0 refl) in
        absurd (let e : true ≡ false = sym passes ∙ fails in cc)
    by false among = refl

pub coming_once : (mapped : Mapped) (graph : Graph) (object : ObjId) (closure list : List ObjId) → IsObject graph object → IsClosure SaveUpdate mapped graph object closure → list ≡ outsiders graph (object ∷ without closure object) → AreOnce graph list
coming_once mapped graph object closure list made is same =
    let p : ObjId → Bool = λ other. not (other.0 == object.0) in
    subst (AreOnce graph) (sym same)
    (outsiders_once graph (λ other. not (is_inside (object_at graph other).state)) (object ∷ without closure object)
    (made, not_itself closure object, rising_once graph (without closure object) (made_part graph p closure (all_made graph closure is.objects)) (rising_part p closure is.ascending)))

pub coming_is : (mapped : Mapped) (graph : Graph) (object : ObjId) (closure list : List ObjId) → closure ≡ closure_of SaveUpdate mapped graph object → list ≡ outsiders graph (object ∷ without closure object) → list ≡ outsiders graph (coming_objects mapped graph object)
coming_is mapped graph object closure list is same = same ∙ ap (λ (objects : List ObjId). outsiders graph (object ∷ without objects object)) is
