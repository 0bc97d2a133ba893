-- Lists with one more item.
use Rattle.std.proofs.Common.{◌≡◌, ℕ, ◌<◌, List, [], ◌∷◌, ◌++◌, length, Some, sym, ap, ◌∙◌}
use Rattle.std.specs.List.{slice_get}
use Rattle.base_core.proofs.Lists.{get_before, get_last}

pub get_pushed : {A : Type 0} (xs : List A) (x : A) (n : ℕ) → length xs ≡ n → slice_get (xs ++ x ∷ []) n ≡ Some x
get_pushed xs x n e = ap (slice_get (xs ++ x ∷ [])) (sym e) ∙ get_last xs x

pub get_kept : {A : Type 0} (xs : List A) (x : A) (i : ℕ) → i < length xs → slice_get (xs ++ x ∷ []) i ≡ slice_get xs i
get_kept xs x i h = get_before xs (x ∷ []) i h

pub ruleset push_steps = (get_pushed, get_kept)
