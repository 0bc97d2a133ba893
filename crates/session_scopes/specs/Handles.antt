-- The handles of savepoints: numbers from 1 on, drawn in order.
use Rattle.std.specs.Prelude.{ℕ, ◌+◌, ◌-◌, ◌<◌, ◌≤◌, ◌==◌, List, [], ◌∷◌, drop, Option}
use Rattle.std.specs.List.{position}

-- the handles of the savepoints in progress, the innermost first, and how many were ever drawn
pub record Drawn : Type 0 where
  pub handles : List ℕ
  pub drawn : ℕ

abbrev pub no_handles : Drawn
no_handles = record { handles = []; drawn = 0 }

-- each is less than the one before it, and the first is not above a number
abbrev pub IsFalling : ℕ → List ℕ → Type 0
IsFalling most [] = Unit {0}
IsFalling most (number ∷ numbers) = (0 < number) × (number ≤ most) × IsFalling (number - 1) numbers

-- one more savepoint has begun, under the next number
abbrev pub with_next_handle : Drawn → Drawn
with_next_handle drawn = record { handles = (drawn.drawn + 1) ∷ drawn.handles; drawn = drawn.drawn + 1 }

-- the place of a handle among those in progress, the innermost at 0
abbrev pub place_of_handle : Drawn → ℕ → Option ℕ
place_of_handle drawn handle = position (λ other. other == handle) drawn.handles

-- so many of the innermost savepoints have ended
abbrev pub without_innermost : ℕ → Drawn → Drawn
without_innermost count drawn = record drawn { handles = drop count drawn.handles }
