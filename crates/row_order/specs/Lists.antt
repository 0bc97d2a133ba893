-- Rows of which each lists those for which it waits, and those that wait for it.
use Rattle.std.specs.Prelude.{◌≡◌, ◌<◌, ℕ, Bool, true, false, not, ◌&&◌, List, [], length, slice_index_or, slice_index, nat_eq, nat_lt, slice_get, Some}
use Rattle.std.specs.List.{All, count_by, filter}
use Rattle.std.specs.Ordering.{nat_cmp}
use Rattle.std.specs.BTreeSet.{BTreeSet, contains}
use Rattle.row_order.specs.Places.{is_among}

-- what a row lists
abbrev pub list_at : List (List ℕ) → ℕ → List ℕ
list_at lists row = slice_index_or lists row []

-- a row waits for those that it lists
abbrev pub waits_in : List (List ℕ) → ℕ → ℕ → Bool
waits_in lists row other = is_among (list_at lists row) other

-- a list without what is none of so many rows
abbrev pub rows_within : ℕ → List ℕ → List ℕ
rows_within size list = filter (λ row. nat_lt row size) list

-- how often a row stands in a list
abbrev pub times : ℕ → List ℕ → ℕ
times row list = count_by (nat_eq row) list

-- how many places of a list have rows that are left
abbrev pub left_in : List ℕ → List ℕ → ℕ
left_in placed list = count_by (λ row. not (is_among placed row)) list

-- all that is listed is below a number
abbrev pub AreBelow : ℕ → List (List ℕ) → Type 0
AreBelow bound lists = (row : ℕ) → All (λ other. other < bound) (list_at lists row)

-- all that is listed are rows
abbrev pub AreRows : List (List ℕ) → Type 0
AreRows lists = AreBelow (length lists) lists

-- a row stands as often among those that wait for another as the other stands in its list
pub record AreMirrored (lists waiting : List (List ℕ)) : Type 0 where
  pub size : length waiting ≡ length lists
  pub rows : AreRows waiting
  pub each : (row other : ℕ) → row < length lists → other < length lists → times row (list_at waiting other) ≡ times other (list_at lists row)

-- the lists say which rows wait for which
pub record AreListsOf (waits : ℕ → ℕ → Bool) (size : ℕ) (lists : List (List ℕ)) : Type 0 where
  pub whole : length lists ≡ size
  pub rows : AreRows lists
  pub each : (row other : ℕ) → row < size → other < size → waits_in lists row other ≡ waits row other

-- so many lists, each as told for its row
pub record AreTold (told : ℕ → List ℕ) (size : ℕ) (lists : List (List ℕ)) : Type 0 where
  pub whole : length lists ≡ size
  pub each : (row : ℕ) → row < length lists → slice_get lists row ≡ Some (told row)

-- how a search stands once these rows are placed: how many rows each still waits for, which are left, and which are ready
pub record Stands (lists : List (List ℕ)) (placed counts : List ℕ) (left : List Bool) (ready : BTreeSet ℕ) : Type 0 where
  pub counted : length counts ≡ length lists
  pub marked : length left ≡ length lists
  pub holds : (row : ℕ) → row < length lists → slice_index counts row ≡ left_in placed (list_at lists row)
  pub done : (row : ℕ) → row < length lists → is_among placed row ≡ true → slice_index counts row ≡ 0
  pub marks : (row : ℕ) → row < length lists → slice_index_or left row false ≡ not (is_among placed row)
  pub readies : (row : ℕ) → contains nat_cmp ready row ≡ (nat_lt row (length lists) && (not (is_among placed row) && nat_eq (slice_index counts row) 0))
