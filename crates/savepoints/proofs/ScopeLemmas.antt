-- Scopes that end, the innermost first.
use Rattle.std.proofs.Common.{◌≡◌, ℕ, ◌+◌, ◌<◌, List, [], ◌∷◌, length, drop, zero, suc, refl, sym, ap, ◌∙◌, arith, add-one, drop-cons}
use Rattle.std.specs.Prelude.{slice_index_or}
use Rattle.std.proofs.lemmas.List.{drop_all}
use Rattle.savepoints.specs.declared.scope.Scope.{Scope}

pub one_more_ended : (scopes : List Scope) (n : ℕ) → drop 1 (drop n scopes) ≡ drop (n + 1) scopes
one_more_ended [] n = ap (drop 1) (drop_all n [] (omega arith)) ∙ sym (drop_all (n + 1) [] (omega arith))
one_more_ended (s ∷ scopes) zero = refl
one_more_ended (s ∷ scopes) (suc n) = let e : suc (n + 1) ≡ suc n + 1 = omega arith in one_more_ended scopes n ∙ ap (λ k. drop k (s ∷ scopes)) e

pub last_ended : (scopes : List Scope) (n : ℕ) (d first : Scope) → n < length scopes → first ≡ slice_index_or (drop n scopes) 0 first → first ≡ slice_index_or scopes n d
last_ended scopes n d first inside is =
    let here : drop n scopes ≡ slice_index_or scopes n d ∷ drop (n + 1) scopes = rw (add-one, drop-cons scopes n d) refl in
    is ∙ ap (λ xs. slice_index_or xs 0 first) here

pub ruleset ended = (one_more_ended, last_ended)
