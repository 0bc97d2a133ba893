-- Aggregates in two lists; the keys that come first.
use Rattle.std.proofs.Common.{◌≡◌, ℕ, Bool, true, false, List, [], ◌∷◌, ◌++◌, ◌||◌, cond, map, refl, ap, sym, ◌∙◌, ◌<◌, ◌+◌, length, get_or, drop}
use Rattle.std.proofs.lemmas.List.{drop_more}
use Rattle.sql_semantics.specs.Eval.{Row}
use Rattle.sql_semantics.specs.Order.{same_row}
use Rattle.sql_semantics.specs.Rows.{Keyed, firsts_from}
use Rattle.std.specs.List.{list_any}

either : (a b c : Bool) → (a || (b || c)) ≡ ((a || b) || c)
either true b c = refl
either false b c = refl

pub any_outputs : {A B X : Type 0} (p : X → Bool) (f : A → X) (g : B → X) (xs : List A) (ys : List B) → list_any p (map f xs ++ map g ys) ≡ (list_any (λ x. p (f x)) xs || list_any (λ y. p (g y)) ys)
any_outputs p f g [] [] = refl
any_outputs p f g [] (y ∷ ys) = ap (λ b. p (g y) || b) (any_outputs p f g [] ys)
any_outputs p f g (x ∷ xs) ys = ap (λ b. p (f x) || b) (any_outputs p f g xs ys) ∙ either (p (f x)) _ _

pub keys_more : (done : List Row) (all : List Keyed) (i : ℕ) (k : Keyed) → i < length all → k ≡ get_or all i k → firsts_from (cond (list_any (same_row k.0) done) done (done ++ k.0 ∷ [])) (map (λ k. k.0) (drop (i + 1) all)) ≡ firsts_from done (map (λ k. k.0) (drop i all))
keys_more done all i k l e = ap (λ ks. firsts_from done (map (λ k. k.0) ks)) (ap (λ y. y ∷ drop (i + 1) all) e ∙ sym (drop_more all i k l))
