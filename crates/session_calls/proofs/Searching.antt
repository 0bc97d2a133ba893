-- The search of a list, element by element, for one that passes a test.
use Rattle.std.proofs.Common.{◌≡◌, ℕ, ◌+◌, ◌<◌, ◌≤◌, Bool, true, false, ◌||◌, List, length, take, get_or, sym, ap, ◌∙◌}
use Rattle.std.specs.List.{list_any}
use Rattle.std.proofs.lemmas.List.{take_all}
use Rattle.std.proofs.lemmas.List.Folds.{list_any_at, list_any_more}

module _ {X : Type 0} (test : X → Bool) (xs : List X) (default : X) where
  -- none passes among one more
  pub none_more : (place : ℕ) (x : X) → place < length xs → x ≡ get_or xs place default → test x ≡ false → list_any test (take place xs) ≡ false → list_any test (take (place + 1) xs) ≡ false
  none_more place x less is fails none =
      list_any_more test xs place default less ∙ ap (λ (b : Bool). b || test (get_or xs place default)) none ∙ ap test (sym is) ∙ fails

  -- one passes
  pub one_passes : (place : ℕ) (x : X) → place < length xs → x ≡ get_or xs place default → test x ≡ true → list_any test xs ≡ true
  one_passes place x less is passes = list_any_at test xs place default less (ap test (sym is) ∙ passes)

  -- all were looked at
  pub none_passes : (place : ℕ) → length xs ≤ place → list_any test (take place xs) ≡ false → list_any test xs ≡ false
  none_passes place all none = ap (list_any test) (sym (take_all place xs all)) ∙ none
