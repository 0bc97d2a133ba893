-- Steps of a loop over the numbers of batches.
use Rattle.std.proofs.Common.{◌≡◌, ℕ, ◌+◌, [], ◌∷◌, ◌++◌, map, arith}
use Rattle.std.specs.List.{range_with_len}
use Rattle.std.proofs.lemmas.List.FromFn.{map-range_with_len_more}

-- of the numbers from 0 on one more
pub numbers_more : {X : Type 0} (f : ℕ → X) (n : ℕ) → map f (range_with_len 0 (n + 1)) ≡ map f (range_with_len 0 n) ++ f n ∷ []
numbers_more f n = map-range_with_len_more f 0 n n (omega arith)

pub ruleset batch_steps = (numbers_more)
