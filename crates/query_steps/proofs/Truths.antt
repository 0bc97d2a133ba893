-- A running `or` or `and` of truths, and those that are left.
use Rattle.std.proofs.Common.{◌≡◌, ℕ, ◌+◌, ◌<◌, ◌≤◌, Bool, List, ◌∷◌, length, get_or, drop, map, Option, sym, ◌∙◌, ap}
use Rattle.std.proofs.lemmas.List.{drop_more, drop_all}
use Rattle.sql_semantics.specs.Truth.{or3, and3, any3, all3}
use Rattle.sql_semantics.proofs.Truths.{or3_assoc, and3_assoc, or3_false, and3_true}

pub any3_more : {X : Type 0} (f : X → Option Bool) (found : Option Bool) (xs : List X) (i : ℕ) (x : X) → i < length xs → x ≡ get_or xs i x → or3 (or3 found (f x)) (any3 (map f (drop (i + 1) xs))) ≡ or3 found (any3 (map f (drop i xs)))
any3_more f found xs i x h e = or3_assoc found (f x) (any3 (map f (drop (i + 1) xs))) ∙ ap (λ l. or3 found (any3 (map f l))) (ap (λ y. y ∷ drop (i + 1) xs) e ∙ sym (drop_more xs i x h))

pub any3_done : {X : Type 0} (f : X → Option Bool) (found : Option Bool) (xs : List X) (i : ℕ) → length xs ≤ i → or3 found (any3 (map f (drop i xs))) ≡ found
any3_done f found xs i h = ap (λ l. or3 found (any3 (map f l))) (drop_all i xs h) ∙ or3_false found

pub all3_more : {X : Type 0} (f : X → Option Bool) (found : Option Bool) (xs : List X) (i : ℕ) (x : X) → i < length xs → x ≡ get_or xs i x → and3 (and3 found (f x)) (all3 (map f (drop (i + 1) xs))) ≡ and3 found (all3 (map f (drop i xs)))
all3_more f found xs i x h e = and3_assoc found (f x) (all3 (map f (drop (i + 1) xs))) ∙ ap (λ l. and3 found (all3 (map f l))) (ap (λ y. y ∷ drop (i + 1) xs) e ∙ sym (drop_more xs i x h))

pub all3_done : {X : Type 0} (f : X → Option Bool) (found : Option Bool) (xs : List X) (i : ℕ) → length xs ≤ i → and3 found (all3 (map f (drop i xs))) ≡ found
all3_done f found xs i h = ap (λ l. and3 found (all3 (map f l))) (drop_all i xs h) ∙ and3_true found

pub ruleset disjunctions = (any3_more, any3_done)

pub ruleset conjunctions = (all3_more, all3_done)
