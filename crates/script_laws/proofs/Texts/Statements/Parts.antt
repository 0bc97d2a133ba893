-- Lists and records that are had back part by part.
use Rattle.std.proofs.Common.{◌≡◌, ℕ, ◌++◌, true, false, not, List, [], ◌∷◌, map, Option, Some, None, refl, ap, ◌∙◌}
use Rattle.std.specs.List.{AllByRecursion}
use Rattle.std.specs.Option.{option_map}
use Rattle.std.proofs.lemmas.Bool.{and_parts, and_from, or_parts, or_from, not-true, not_from_false}
use Rattle.schema_core.specs.Catalog.{has_name, same_name}
use Rattle.expr_types.specs.declared.expr.Expr.{Expr}
use Rattle.sql_semantics.specs.Plain.{IfSet, are_distinct}

-- a function and what it is applied to
pub with_next : {A B : Type 0} {f g : A → B} {x y : A} → f ≡ g → x ≡ y → f x ≡ g y
with_next {A} {B} {f} {g} {x} {y} e h = ap (λ (k : A → B). k x) e ∙ ap g h

pub one_more : {A : Type 0} {x y : A} {xs ys : List A} → x ≡ y → xs ≡ ys → x ∷ xs ≡ y ∷ ys
one_more {A} {x} {y} {xs} {ys} e h = ap (λ (z : A). z ∷ xs) e ∙ ap (λ (zs : List A). y ∷ zs) h

-- what is had back of each item is had back of a list
pub list_told : {A B : Type 0} (to : A → B) (from : B → A) (P : A → Type 0) → ((x : A) → P x → from (to x) ≡ x) → (xs : List A) → AllByRecursion P xs → map from (map to xs) ≡ xs
list_told to from P each [] all = refl
list_told to from P each (x ∷ xs) all = one_more (each x all.0) (list_told to from P each xs all.1)

pub option_told : {B : Type 0} (to : Expr → B) (from : B → Expr) (P : Expr → Type 0) → ((e : Expr) → P e → from (to e) ≡ e) → (o : Option Expr) → IfSet P o → option_map from (option_map to o) ≡ o
option_told to from P each None set = refl
option_told to from P each (Some e) set = ap Some (each e set)

-- ---- names of the first sources

other_names : {A : Type 0} (f : A → List ℕ) (xs ys : List A) (n : List ℕ) → has_name (map f (xs ++ ys)) n ≡ false → has_name (map f xs) n ≡ false
other_names f [] ys n h = refl
other_names f (x ∷ xs) ys n h =
    let both = or_parts (same_name (f x) n) (has_name (map f (xs ++ ys)) n) h in
    or_from (same_name (f x) n) (has_name (map f xs) n) both.0 (other_names f xs ys n both.1)

pub front_distinct : {A : Type 0} (f : A → List ℕ) (xs ys : List A) → are_distinct (map f (xs ++ ys)) ≡ true → are_distinct (map f xs) ≡ true
front_distinct f [] ys d = refl
front_distinct f (x ∷ xs) ys d =
    let both = and_parts (not (has_name (map f (xs ++ ys)) (f x))) (are_distinct (map f (xs ++ ys))) d in
    and_from (not (has_name (map f xs) (f x))) (are_distinct (map f xs)) (not_from_false (has_name (map f xs) (f x)) (other_names f xs ys (f x) (not-true (has_name (map f (xs ++ ys)) (f x)) both.0)))
    (front_distinct f xs ys both.1)
