-- Lists that are told row by row, without what is no row, and turned round.
use Rattle.std.proofs.Common.{◌≡◌, ℕ, zero, suc, ◌+◌, ◌<◌, ◌≤◌, Bool, true, false, cond, ◌||◌, List, [], ◌∷◌, length, ◌⊎◌, inl, inr, refl, sym, ap, ◌∙◌, subst, arith}
use Rattle.std.proofs.lemmas.Bool.{cases_lt, lt-ltb, ltb-false, ltb-true, ne_eqb}
use Rattle.std.proofs.lemmas.Option.{get_or_from_slice_get}
use Rattle.std.specs.Prelude.{nat_eq, nat_lt}
use Rattle.std.specs.List.{All}
use Rattle.base_core.proofs.Lists.{get_beyond}
use Rattle.row_order.specs.Lists.{AreListsOf, AreMirrored, AreRows, AreTold, list_at, rows_within, times, waits_in}
use Rattle.row_order.specs.Places.{is_among}
use Rattle.row_order.proofs.SearchLemmas.{times_cons}

pub none_below : (size : ℕ) → All (λ row. row < size) []
none_below size k d h = absurd (omega (arith, h))

-- one more row, if it is below a number
pub below_if : (size place : ℕ) (rows : List ℕ) (b : Bool) → nat_lt place size ≡ b → All (λ row. row < size) rows → All (λ row. row < size) (cond b (place ∷ rows) rows)
below_if size place rows true e all = one_more
  where
    one_more : All (λ row. row < size) (place ∷ rows)
    one_more zero d h = ltb-true place size e
    one_more (suc k) d h = all k d (omega (arith, h))
below_if size place rows false e all = all

told_at : (told : ℕ → List ℕ) (size : ℕ) (lists : List (List ℕ)) (row : ℕ) → AreTold told size lists → row < size → list_at lists row ≡ told row
told_at told size lists row are less = get_or_from_slice_get lists row (told row) [] (are.each row (omega (arith, less, are.whole)))

told_rows : (told : ℕ → List ℕ) (size : ℕ) (lists : List (List ℕ)) → AreTold told size lists → ((row : ℕ) → All (λ other. other < size) (told row)) → AreRows lists
told_rows told size lists are below row =
    subst (λ n. All (λ other. other < n) (list_at lists row)) (sym are.whole) (by (cases_lt row size))
  where
    by : (row < size) ⊎ (size ≤ row) → All (λ other. other < size) (list_at lists row)
    by (inl less) = subst (All (λ other. other < size)) (sym (told_at told size lists row are less)) (below row)
    by (inr far) = subst (All (λ other. other < size)) (sym (get_beyond lists row [] (omega (arith, far, are.whole)))) (none_below size)

-- what is told for each row is told by the lists
pub told_lists : (waits : ℕ → ℕ → Bool) (told : ℕ → List ℕ) (size : ℕ) (lists : List (List ℕ)) → AreTold told size lists → ((row : ℕ) → All (λ other. other < size) (told row))
    → ((row other : ℕ) → row < size → other < size → is_among (told row) other ≡ waits row other) → AreListsOf waits size lists
told_lists waits told size lists are below each = record {
  whole = are.whole;
  rows = told_rows told size lists are below;
  each = λ row other h l. ap (λ list. is_among list other) (told_at told size lists row are h) ∙ each row other h l;
}

-- ---- lists without what is no row

within_by : (size x other : ℕ) (list : List ℕ) (b : Bool) → other < size → nat_lt x size ≡ b → is_among (cond b (x ∷ list) list) other ≡ (nat_eq other x || is_among list other)
within_by size x other list true less e = refl
within_by size x other list false less e = ap (λ b. b || is_among list other) (sym (ne_eqb other x (λ same. absurd (omega (arith, same, less, ltb-false x size e)))))

within_same : (size other : ℕ) (list : List ℕ) → other < size → is_among (rows_within size list) other ≡ is_among list other
within_same size other [] less = refl
within_same size other (x ∷ list) less =
    within_by size x other (rows_within size list) (nat_lt x size) less refl
    ∙ ap (λ b. nat_eq other x || b) (within_same size other list less)

within_below : (size : ℕ) (list : List ℕ) → All (λ row. row < size) (rows_within size list)
within_below size [] = none_below size
within_below size (x ∷ list) = below_if size x (rows_within size list) (nat_lt x size) refl (within_below size list)

pub within_are_listed : (lists within : List (List ℕ)) → AreTold (λ row. rows_within (length lists) (list_at lists row)) (length lists) within → AreListsOf (waits_in lists) (length lists) within
within_are_listed lists within are =
    told_lists (waits_in lists) (λ row. rows_within (length lists) (list_at lists row)) (length lists) within are
    (λ row. within_below (length lists) (list_at lists row))
    (λ row other h l. within_same (length lists) other (list_at lists row) l)

-- ---- those that wait for each row

among_times : (row : ℕ) (list : List ℕ) → is_among list row ≡ nat_lt 0 (times row list)
among_times row [] = refl
among_times row (x ∷ list) = by (nat_eq row x) (times row list) (among_times row list) ∙ ap (nat_lt 0) (sym (times_cons row x list))
  where
    by : (b : Bool) (n : ℕ) → is_among list row ≡ nat_lt 0 n → (b || is_among list row) ≡ nat_lt 0 (cond b 1 0 + n)
    by true n e = sym (lt-ltb 0 (cond true 1 0 + n) (omega arith))
    by false n e = let z : n ≡ 0 + n = omega arith in e ∙ ap (nat_lt 0) z

-- those that wait for each row, where it is told for which rows they do
pub mirrored_lists : (waits : ℕ → ℕ → Bool) (size : ℕ) (lists waiting : List (List ℕ)) → AreMirrored lists waiting → AreListsOf waits size lists → AreListsOf (λ row other. waits other row) size waiting
mirrored_lists waits size lists waiting mirror are = record {
  whole = mirror.size ∙ are.whole;
  rows = mirror.rows;
  each = λ row other h l.
      among_times other (list_at waiting row)
      ∙ ap (nat_lt 0) (mirror.each other row (omega (arith, l, are.whole)) (omega (arith, h, are.whole)))
      ∙ sym (among_times row (list_at lists other))
      ∙ are.each other row l h;
}
