-- Steps of loops over two lists at once.
use Rattle.std.proofs.Common.{◌≡◌, ℕ, ◌+◌, ◌<◌, ◌≤◌, List, [], ◌∷◌, length, get_or, drop, append_assoc, append-nil, refl, ap, ◌∙◌}
use Rattle.std.specs.List.{zip}
use Rattle.std.proofs.lemmas.List.{drop_all, drop_more}

zip_none : {A B : Type 0} (xs : List A) → (let none : List B = [] in zip xs none ≡ [])
zip_none [] = refl
zip_none (x ∷ xs) = refl

-- of two lists what is left begins with the pair there
pub pair_left : {A B : Type 0} (xs : List A) (ys : List B) (i : ℕ) (d : A) (e : B) → i < length xs → i < length ys
    → zip (drop i xs) (drop i ys) ≡ (get_or xs i d, get_or ys i e) ∷ zip (drop (i + 1) xs) (drop (i + 1) ys)
pair_left xs ys i d e h g = ap (λ left. zip left (drop i ys)) (drop_more xs i d h) ∙ ap (λ left. zip (get_or xs i d ∷ drop (i + 1) xs) left) (drop_more ys i e g)

-- past the end of one of them none is left
pub pairs_done : {A B : Type 0} (xs : List A) (ys : List B) (i : ℕ) → length xs ≤ i → zip (drop i xs) (drop i ys) ≡ []
pairs_done xs ys i h = ap (λ left. zip left (drop i ys)) (drop_all i xs h)

pub pairs_short : {A B : Type 0} (xs : List A) (ys : List B) (i : ℕ) → length ys ≤ i → zip (drop i xs) (drop i ys) ≡ []
pairs_short xs ys i h = ap (λ left. zip (drop i xs) left) (drop_all i ys h) ∙ zip_none (drop i xs)

pub ruleset pair_steps = (pair_left, pairs_done, pairs_short, append_assoc, append-nil)
