-- Handles fall, as savepoints begin and end.
use Rattle.std.proofs.Common.{◌≡◌, ℕ, zero, suc, ◌+◌, ◌-◌, ◌≤◌, List, [], ◌∷◌, drop, sym, subst, arith}
use Rattle.session_scopes.specs.Handles.{IsFalling}

weaker : (a b : ℕ) (xs : List ℕ) → a ≤ b → IsFalling a xs → IsFalling b xs
weaker a b [] less f = tt
weaker a b (x ∷ xs) less f = (f.0, omega (arith, f.1, less), f.2)

-- one more is drawn
pub falling_next : (drawn : ℕ) (xs : List ℕ) → IsFalling drawn xs → IsFalling (drawn + 1) ((drawn + 1) ∷ xs)
falling_next drawn xs f = (omega arith, omega arith, let e : drawn + 1 - 1 ≡ drawn = omega arith in subst (λ (n : ℕ). IsFalling n xs) (sym e) f)

-- some of the last end
pub falling_drop : (drawn n : ℕ) (xs : List ℕ) → IsFalling drawn xs → IsFalling drawn (drop n xs)
falling_drop drawn zero xs f = f
falling_drop drawn (suc n) [] f = tt
falling_drop drawn (suc n) (x ∷ xs) f = falling_drop drawn n xs (weaker (x - 1) drawn xs (omega (arith, f.1)) f.2)

pub ruleset falling = (falling_next, falling_drop)
