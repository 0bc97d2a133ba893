-- What is found in a list.
use Rattle.std.proofs.Common.{◌≡◌, Bool, true, false, not, cond, ◌||◌, List, [], ◌∷◌, Option, Some, refl}
use Rattle.std.specs.Prelude.{find, is_none}
use Rattle.std.specs.List.{list_any}

none_from : {A : Type 0} (x : A) (o : Option A) (b l : Bool) → not l ≡ is_none o → not (b || l) ≡ is_none (cond b (Some x) o)
none_from x o true l e = refl
none_from x o false l e = e

pub none_found : {A : Type 0} (f : A → Bool) (xs : List A) → not (list_any f xs) ≡ is_none (find f xs)
none_found f [] = refl
none_found f (x ∷ xs) = none_from x (find f xs) (f x) (list_any f xs) (none_found f xs)
