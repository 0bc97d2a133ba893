-- An object has one closure under a flag.
use Rattle.std.proofs.Common.{◌≡◌, ℕ, ◌<◌, Bool, true, false, ◌||◌, List, [], ◌∷◌, refl, sym, ap, ◌∙◌, ⊎_elim, arith}
use Rattle.std.specs.Prelude.{◌==◌}
use Rattle.std.proofs.lemmas.Bool.{eq-eqb, eqb-true}
use Rattle.base_core.specs.declared.ids.ObjId.{ObjId}
use Rattle.base_core.specs.Ascending.{IsBelow, IsAscending}
use Rattle.class_mapping.specs.Mapped.{Mapped}
use Rattle.object_arena.specs.Graph.{Graph}
use Rattle.cascades.specs.declared.closures.Flag.{Flag}
use Rattle.cascades.specs.Closures.{IsClosure, is_among}
use Rattle.cascades.proofs.ClosureLemmas.{at_each}
use Rattle.cascades.proofs.WalkLemmas.{or_cases}

abbrev Within : List ObjId → List ObjId → Type 0
Within xs ys = (object : ObjId) → is_among xs object ≡ true → is_among ys object ≡ true

first_among : (x : ObjId) (xs : List ObjId) → is_among (x ∷ xs) x ≡ true
first_among x xs = ap (λ (b : Bool). b || is_among xs x) (eq-eqb x.0 x.0 refl)

later_among : (x object : ObjId) (xs : List ObjId) → is_among xs object ≡ true → is_among (x ∷ xs) object ≡ true
later_among x object xs h = later (object.0 == x.0) (is_among xs object) h
  where
    later : (a b : Bool) → b ≡ true → (a || b) ≡ true
    later true b e = refl
    later false b e = e

-- what is among later ones is above
above : (x : ObjId) (xs : List ObjId) (object : ObjId) → IsBelow x xs → is_among xs object ≡ true → x.0 < object.0
above x [] object below h = absurd cc
above x (y ∷ ys) object below h =
    ⊎_elim
    (λ (same : (object.0 == y.0) ≡ true). let number : object.0 ≡ y.0 = eqb-true object.0 y.0 same in let less : x.0 < y.0 = below.0 in omega (arith, number, less))
    (λ (later : is_among ys object ≡ true). above x ys object below.1 later)
    (or_cases (object.0 == y.0) (is_among ys object) h)

same_first : (x y : ObjId) (xs ys : List ObjId) → IsBelow x xs → IsBelow y ys → Within (x ∷ xs) (y ∷ ys) → Within (y ∷ ys) (x ∷ xs) → x.0 ≡ y.0
same_first x y xs ys below_x below_y there back =
    ⊎_elim
    (λ (same : (x.0 == y.0) ≡ true). eqb-true x.0 y.0 same)
    (λ (later : is_among ys x ≡ true).
    ⊎_elim
    (λ (same : (y.0 == x.0) ≡ true). sym (eqb-true y.0 x.0 same))
    (λ (later_too : is_among xs y ≡ true).
    let up : y.0 < x.0 = above y ys x below_y later in
    let down : x.0 < y.0 = above x xs y below_x later_too in
    absurd (omega (arith, up, down)))
    (or_cases (y.0 == x.0) (is_among xs y) (back y (first_among y ys))))
    (or_cases (x.0 == y.0) (is_among ys x) (there x (first_among x xs)))

rest_within : (x y : ObjId) (xs ys : List ObjId) → x.0 ≡ y.0 → IsBelow x xs → Within (x ∷ xs) (y ∷ ys) → Within xs ys
rest_within x y xs ys same below there object among =
    ⊎_elim
    (λ (first : (object.0 == y.0) ≡ true).
    let number : object.0 ≡ y.0 = eqb-true object.0 y.0 first in
    let less : x.0 < object.0 = above x xs object below among in
    absurd (omega (arith, number, less, same)))
    (λ (later : is_among ys object ≡ true). later)
    (or_cases (object.0 == y.0) (is_among ys object) (there object (later_among x object xs among)))

-- two lists in order with the same objects are one
pub one_list : (xs ys : List ObjId) → IsAscending xs → IsAscending ys → Within xs ys → Within ys xs → xs ≡ ys
one_list [] [] rising_x rising_y there back = refl
one_list [] (y ∷ ys) rising_x rising_y there back = absurd (let e : false ≡ true = back y (first_among y ys) in cc)
one_list (x ∷ xs) [] rising_x rising_y there back = absurd (let e : false ≡ true = there x (first_among x xs) in cc)
one_list (x ∷ xs) (y ∷ ys) rising_x rising_y there back =
    let number : x.0 ≡ y.0 = same_first x y xs ys rising_x.0 rising_y.0 there back in
    let numbered : ℕ → ObjId = λ n. record { 0 = n } in
    ap (λ (n : ℕ). numbered n ∷ xs) number
    ∙ ap (λ (zs : List ObjId). y ∷ zs) (one_list xs ys rising_x.1 rising_y.1 (rest_within x y xs ys number rising_x.0 there) (rest_within y x ys xs (sym number) rising_y.0 back))

-- an object has one closure
pub one_closure : (flag : Flag) (mapped : Mapped) (graph : Graph) (object : ObjId) (xs ys : List ObjId) → IsClosure flag mapped graph object xs → IsClosure flag mapped graph object ys → xs ≡ ys
one_closure flag mapped graph object xs ys first second =
    one_list xs ys first.ascending second.ascending
    (λ other among. at_each (is_among ys) xs other (first.least (is_among ys) second.has second.closed) among)
    (λ other among. at_each (is_among xs) ys other (second.least (is_among xs) first.has first.closed) among)
