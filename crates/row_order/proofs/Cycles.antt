-- A cycle has only rows that there are.
use Rattle.std.proofs.Common.{◌≡◌, ℕ, zero, suc, ◌+◌, ◌<◌, Bool, true, false, cond, List, [], ◌∷◌, ◌++◌, get_or, Some, sym, subst, arith}
use Rattle.std.proofs.lemmas.List.Elements.{All-append}
use Rattle.std.proofs.lemmas.List.FromFn.{get_or-range_with_len, length-range_with_len}
use Rattle.std.specs.Prelude.{nat_eq}
use Rattle.std.specs.List.{All, find, range_with_len}
use Rattle.std.specs.Option.{unwrap_or}
use Rattle.row_order.specs.Places.{cycle_from, from_row, holds_up, is_among, next_blocker, order, trail}
use Rattle.row_order.proofs.Told.{none_below}

abbrev Below : ℕ → List ℕ → Type 0
Below size = All (λ row. row < size)

one_below : (size row : ℕ) → row < size → Below size (row ∷ [])
one_below size row less zero d h = less
one_below size row less (suc k) d h = absurd (omega (arith, h))

rest_below : (size row : ℕ) (rows : List ℕ) → Below size (row ∷ rows) → Below size rows
rest_below size row rows all k d h = all (suc k) d (omega (arith, h))

from_below : (size row : ℕ) (path : List ℕ) → Below size path → Below size (from_row row path)
from_below size row [] all = all
from_below size row (first ∷ path) all = by (nat_eq row first) (from_below size row path (rest_below size first path all))
  where
    by : (b : Bool) → Below size (from_row row path) → Below size (cond b (first ∷ path) (from_row row path))
    by true more = all
    by false more = more

trail_below : (next : ℕ → ℕ) (size : ℕ) → ((row : ℕ) → row < size → next row < size) → (steps : ℕ) (path : List ℕ) (row : ℕ) → Below size path → row < size → Below size (trail next steps path row)
trail_below next size goes zero path row all less = all
trail_below next size goes (suc steps) path row all less =
    by (is_among path row) (trail_below next size goes steps (path ++ row ∷ []) (next row) (All-append (λ r. r < size) path (row ∷ []) all (one_below size row less)) (goes row less))
  where
    by : (b : Bool) → Below size (trail next steps (path ++ row ∷ []) (next row)) → Below size (cond b (from_row row path) (trail next steps (path ++ row ∷ []) (next row)))
    by true more = from_below size row path all
    by false more = more

found_below : (size : ℕ) (p : ℕ → Bool) (rows : List ℕ) (row : ℕ) → Below size rows → row < size → unwrap_or (find p rows) row < size
found_below size p [] row all less = less
found_below size p (first ∷ rows) row all less = by (p first) (found_below size p rows row (rest_below size first rows all) less)
  where
    by : (b : Bool) → unwrap_or (find p rows) row < size → unwrap_or (cond b (Some first) (find p rows)) row < size
    by true more = all 0 0 (omega arith)
    by false more = more

range_below : (size : ℕ) → Below size (range_with_len 0 size)
range_below size k d h =
    let less : k < size = omega (arith, h, length-range_with_len 0 size) in
    let is : get_or (range_with_len 0 size) k d ≡ 0 + k = get_or-range_with_len 0 size k d less in
    omega (arith, is, less)

pub blocker_below : (waits : ℕ → ℕ → Bool) (size : ℕ) (placed : List ℕ) (row : ℕ) → row < size → next_blocker waits size placed row < size
unfolding next_blocker
blocker_below waits size placed row less = found_below size (holds_up waits placed row) (range_with_len 0 size) row (range_below size) less

pub cycle_within : (waits : ℕ → ℕ → Bool) (size least : ℕ) (path : List ℕ) → path ≡ cycle_from waits size least → least < size → All (λ row. row < size) path
unfolding cycle_from
cycle_within waits size least path e less =
    subst (Below size) (sym e) (trail_below (next_blocker waits size (order waits size)) size (blocker_below waits size (order waits size)) (suc size) [] least (none_below size) less)
