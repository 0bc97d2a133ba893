-- Steps of loops that write over each item of a list.
use Rattle.std.proofs.Common.{◌≡◌, ℕ, ◌+◌, ◌<◌, Bool, true, List, [], ◌∷◌, ◌++◌, length, map, get_or, take, drop, zero, suc, Some, refl, sym, ap, ◌∙◌, arith}
use Rattle.std.specs.Prelude.{slice_get, slice_set}
use Rattle.std.specs.Cmp.Lexicographic.{pointwise}
use Rattle.std.proofs.lemmas.List.Edits.{map_over_more}
use Rattle.std.proofs.lemmas.Option.{get_or_from_slice_get}
use Rattle.std.proofs.lemmas.Bool.{and_from, and_parts}
use Rattle.base_core.specs.declared.ids.AttrNo.{AttrNo}
use Rattle.base_core.specs.declared.value.Value.{Value}
use Rattle.object_arena.specs.declared.object.Cell.{Cell}
use Rattle.object_arena.specs.declared.object.Object.{Object}
use Rattle.object_arena.specs.Graph.{cell_in, cell_put, expired_cell}

-- what was written over the items before a place, and then over the item there
pub write_over : {X : Type 0} (f : X → X) (xs ys zs : List X) (i : ℕ) (x : X) → i < length xs → ys ≡ map f (take i xs) ++ drop i xs → slice_get ys i ≡ Some x → zs ≡ slice_set ys i (f x) → zs ≡ map f (take (i + 1) xs) ++ drop (i + 1) xs
write_over f xs ys zs i x less so_far here write = write ∙ map_over_more f xs ys i x less so_far (sym (get_or_from_slice_get ys i x x here))

-- a second write at a place
pub set_twice : {X : Type 0} (xs : List X) (i : ℕ) (a b : X) → slice_set (slice_set xs i a) i b ≡ slice_set xs i b
set_twice [] i a b = refl
set_twice (x ∷ xs) zero a b = refl
set_twice (x ∷ xs) (suc i) a b = ap (λ ys. x ∷ ys) (set_twice xs i a b)

-- an item that goes with its partner stands in the place of another
pub pointwise_set : {A B : Type 0} (p : A → B → Bool) (xs : List A) (ys : List B) (i : ℕ) (y : B) (d : A) → pointwise p xs ys ≡ true → p (get_or xs i d) y ≡ true → i < length xs → pointwise p xs (slice_set ys i y) ≡ true
pointwise_set p [] ys i y d all one less = absurd (omega arith)
pointwise_set p (x ∷ xs) [] i y d all one less = absurd cc
pointwise_set p (x ∷ xs) (z ∷ ys) zero y d all one less = and_from (p x y) (pointwise p xs ys) one (and_parts (p x z) (pointwise p xs ys) all).1
pointwise_set p (x ∷ xs) (z ∷ ys) (suc i) y d all one less =
    and_from (p x z) (pointwise p xs (slice_set ys i y)) (and_parts (p x z) (pointwise p xs ys) all).0
    (pointwise_set p xs ys i y d (and_parts (p x z) (pointwise p xs ys) all).1 one (omega arith))

-- partners at a place go together
pub pointwise_at : {A B : Type 0} (p : A → B → Bool) (xs : List A) (ys : List B) (i : ℕ) (d : A) (e : B) → pointwise p xs ys ≡ true → i < length xs → p (get_or xs i d) (get_or ys i e) ≡ true
pointwise_at p [] ys i d e all less = absurd (omega arith)
pointwise_at p (x ∷ xs) [] i d e all less = absurd cc
pointwise_at p (x ∷ xs) (y ∷ ys) zero d e all less = (and_parts (p x y) (pointwise p xs ys) all).0
pointwise_at p (x ∷ xs) (y ∷ ys) (suc i) d e all less = pointwise_at p xs ys i d e (and_parts (p x y) (pointwise p xs ys) all).1 (omega arith)

-- a cell that was taken out and put in again with another value
pub value_put : (object : Object) (attr : AttrNo) (value : Value) (between new : List Cell) (hole old : Cell) → slice_get object.cells attr.0 ≡ Some old → between ≡ slice_set object.cells attr.0 hole → new ≡ slice_set between attr.0 (record { value = Some value; base = old.base }) → record object { cells = new } ≡ cell_put object attr (record (cell_in object attr) { value = Some value })
value_put object attr value between new hole old here out back =
    let was : cell_in object attr ≡ old = get_or_from_slice_get object.cells attr.0 old expired_cell here in
    ap (λ (cells : List Cell). record object { cells = cells })
    (back
    ∙ ap (λ (cells : List Cell). slice_set cells attr.0 (record { value = Some value; base = old.base })) out
    ∙ set_twice object.cells attr.0 hole (record { value = Some value; base = old.base })
    ∙ ap (λ (cell : Cell). slice_set object.cells attr.0 (record { value = Some value; base = cell.base })) (sym was))

-- partners that still go together when each second one is changed
pub pointwise_map : {A B : Type 0} (p : A → B → Bool) (f : B → B) (xs : List A) (ys : List B) → ((x : A) (y : B) → p x y ≡ true → p x (f y) ≡ true) → pointwise p xs ys ≡ true → pointwise p xs (map f ys) ≡ true
pointwise_map p f [] [] keeps all = refl
pointwise_map p f [] (y ∷ ys) keeps all = absurd cc
pointwise_map p f (x ∷ xs) [] keeps all = absurd cc
pointwise_map p f (x ∷ xs) (y ∷ ys) keeps all =
    and_from (p x (f y)) (pointwise p xs (map f ys)) (keeps x y (and_parts (p x y) (pointwise p xs ys) all).0)
    (pointwise_map p f xs ys keeps (and_parts (p x y) (pointwise p xs ys) all).1)

-- what goes with each of a list
pub pointwise_made : {A B : Type 0} (p : A → B → Bool) (xs : List A) (y : B) → ((x : A) → p x y ≡ true) → pointwise p xs (map (λ x. y) xs) ≡ true
pointwise_made p [] y each = refl
pointwise_made p (x ∷ xs) y each = and_from (p x y) (pointwise p xs (map (λ z. y) xs)) (each x) (pointwise_made p xs y each)
