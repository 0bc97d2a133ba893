-- Which ends of a text fit a pattern.
use Rattle.std.specs.Prelude.{◌≡◌, ℕ, ◌+◌, ◌-◌, ◌≤◌, Bool, false, ◌&&◌, ◌||◌, if◌then◌else◌, ◌==◌, List, length, drop, slice_index_or, slice_index}
use Rattle.sql_semantics.specs.Texts.{fits, stands_for}

-- at each k up to a number, whether the last k characters of the text fit the pattern
pub record AreEndsTo (high : ℕ) (pattern text : List ℕ) (ends : List Bool) : Type 0 where
  pub len : length ends ≡ high + 1
  pub each : (k : ℕ) → k ≤ high → slice_index_or ends k false ≡ fits pattern (drop (length text - k) text)

abbrev pub AreEnds : List ℕ → List ℕ → List Bool → Type 0
AreEnds pattern text ends = AreEndsTo (length text) pattern text ends

-- whether the last i + 1 characters fit the pattern that begins with the character wanted, from what is known of shorter ends and of the rest
abbrev pub next_end : ℕ → List ℕ → List Bool → List Bool → ℕ → Bool
next_end wanted text ends more i =
    if wanted == 37 then slice_index_or ends (i + 1) false || slice_index_or more i false
    else stands_for wanted (slice_index text (length text - 1 - i)) && slice_index_or ends i false
