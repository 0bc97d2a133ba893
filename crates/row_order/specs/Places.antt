-- The order of rows of which some wait for others: each place holds the least row left that waits for none left. Rows are told by their place in a list.
use Rattle.std.specs.Prelude.{◌≡◌, ◌<◌, ℕ, zero, suc, Bool, true, cond, not, ◌&&◌, List, [], ◌∷◌, ◌++◌, length, take, slice_get, nat_eq, Option, None, Some, Result, Ok, Err}
use Rattle.std.specs.List.{list_any, find, range_with_len}
use Rattle.std.specs.Option.{option_to_list, unwrap_or}

-- the row is one of these
abbrev pub is_among : List ℕ → ℕ → Bool
is_among placed row = list_any (nat_eq row) placed

-- the row is left, and the other waits for it
abbrev pub holds_up : (ℕ → ℕ → Bool) → List ℕ → ℕ → ℕ → Bool
holds_up waits placed row other = not (is_among placed other) && waits row other

-- the row is left, and waits for none that is left
abbrev pub is_ready : (ℕ → ℕ → Bool) → ℕ → List ℕ → ℕ → Bool
is_ready waits size placed row = not (is_among placed row) && not (list_any (holds_up waits placed row) (range_with_len 0 size))

-- the row that comes after these
unfoldable pub next_place : (ℕ → ℕ → Bool) → ℕ → List ℕ → Option ℕ
next_place waits size placed = find (is_ready waits size placed) (range_with_len 0 size)

-- the first rows of the order, so many
unfoldable pub first_places : (ℕ → ℕ → Bool) → ℕ → ℕ → List ℕ
first_places waits size zero = []
first_places waits size (suc n) = first_places waits size n ++ option_to_list (next_place waits size (first_places waits size n))

-- the order, as far as it goes
unfoldable pub order : (ℕ → ℕ → Bool) → ℕ → List ℕ
order waits size = first_places waits size size

-- the least row left for which a row waits
unfoldable pub next_blocker : (ℕ → ℕ → Bool) → ℕ → List ℕ → ℕ → ℕ
next_blocker waits size placed row = unwrap_or (find (holds_up waits placed row) (range_with_len 0 size)) row

-- the least row left
unfoldable pub least_left : ℕ → List ℕ → Option ℕ
least_left size placed = find (λ row. not (is_among placed row)) (range_with_len 0 size)

-- the list from this row on
abbrev pub from_row : ℕ → List ℕ → List ℕ
from_row row [] = []
from_row row (first ∷ path) = cond (nat_eq row first) (first ∷ path) (from_row row path)

-- steps until a row repeats, and then the rows from that row's first place on
abbrev pub trail : (ℕ → ℕ) → ℕ → List ℕ → ℕ → List ℕ
trail next zero path row = path
trail next (suc steps) path row = cond (is_among path row) (from_row row path) (trail next steps (path ++ row ∷ []) (next row))

-- from a row that is left, each time to the least for which it waits
unfoldable pub cycle_from : (ℕ → ℕ → Bool) → ℕ → ℕ → List ℕ
cycle_from waits size row = trail (next_blocker waits size (order waits size)) (suc size) [] row

abbrev pub unless_left : (ℕ → ℕ → Bool) → ℕ → Option ℕ → Result (List ℕ) (List ℕ)
unless_left waits size None = Ok (order waits size)
unless_left waits size (Some row) = Err (cycle_from waits size row)

-- the order, or, where rows are left, a cycle from the least of them
unfoldable pub order_or_cycle : (ℕ → ℕ → Bool) → ℕ → Result (List ℕ) (List ℕ)
order_or_cycle waits size = unless_left waits size (least_left size (order waits size))

-- each waits for the next, and the last for the first
abbrev pub IsRing : (ℕ → ℕ → Bool) → ℕ → List ℕ → Type 0
IsRing waits first [] = ⊥
IsRing waits first (row ∷ []) = waits row first ≡ true
IsRing waits first (row ∷ next ∷ rows) = (waits row next ≡ true) × IsRing waits first (next ∷ rows)

abbrev pub IsCycle : (ℕ → ℕ → Bool) → List ℕ → Type 0
IsCycle waits [] = ⊥
IsCycle waits (row ∷ rows) = IsRing waits row (row ∷ rows)

-- the list has each row once, and each is the least row left that waits for none left
pub record IsOrder (waits : ℕ → ℕ → Bool) (size : ℕ) (rows : List ℕ) : Type 0 where
  pub whole : length rows ≡ size
  pub each : (row : ℕ) → row < size → is_among rows row ≡ true
  pub next : (place : ℕ) → place < length rows → next_place waits size (take place rows) ≡ slice_get rows place
