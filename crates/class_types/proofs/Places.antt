-- A validator that takes the place of another.
use Rattle.std.proofs.Common.{◌≡◌, ℕ, List, map, set, Option, None, Some, sym, ap, ◌∙◌}
use Rattle.std.proofs.lemmas.List.{map-set}
use Rattle.class_types.specs.Rules.{Asked, Rules, place_of, put_at, with_rule}

abbrev rules_at : List (List ℕ) → List Asked → Rules
rules_at names asks = record { names = names; asks = asks }

pub set_some : {A : Type 0} (f : A → Asked) (names : List (List ℕ)) (items : List A) (name : List ℕ) (place : ℕ) (new : A) → place_of names name ≡ Some place
    → rules_at names (map f (set items place new)) ≡ with_rule (rules_at names (map f items)) name (f new)
set_some f names items name place new h =
    ap (rules_at names) (map-set f items place new) ∙ sym (ap (put_at (rules_at names (map f items)) name (f new)) h)
