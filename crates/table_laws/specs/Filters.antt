-- Lists whose items give something, or are refused.
use Rattle.std.specs.Prelude.{◌≡◌, List, Ok}
use Rattle.std.specs.List.{AllByRecursion}
use Rattle.sql_semantics.specs.Checked.{Checked}

-- each of the items gives this
abbrev pub AllGive : {A B : Type 0} → (A → Checked B) → (A → B) → List A → Type 0
AllGive f value xs = AllByRecursion (λ x. f x ≡ Ok (value x)) xs
