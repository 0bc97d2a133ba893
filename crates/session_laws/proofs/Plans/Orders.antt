-- Either the order has every row, or there is a cycle.
use Rattle.std.proofs.Common.{◌≡◌, ℕ, zero, suc, ◌+◌, ◌<◌, ◌≤◌, Bool, true, false, cond, not, ◌&&◌, ◌||◌, List, [], ◌∷◌, ◌++◌, ◌⊎◌, inl, inr, length, get_or, take, eqb, Option, None, Some, Result, Ok, Err, refl, sym, ap, ◌∙◌, subst, length-append, arith}
use Rattle.std.proofs.lemmas.Bool.{cases_lt, eqb-true}
use Rattle.std.proofs.lemmas.List.{get_or-take, take_all, take-append-le}
use Rattle.std.proofs.lemmas.List.Folds.{list_any-append}
use Rattle.std.proofs.lemmas.Map.Keys.{IsDistinct-push}
use Rattle.std.proofs.lemmas.Map.Steps.{le-length_from_below, length-le_from_distinct_below}
use Rattle.std.proofs.lemmas.Option.{slice_get-get_or}
use Rattle.std.proofs.Math.Seq.{get_or-append_seam}
use Rattle.std.specs.Cmp.{nat_eq_equiv}
use Rattle.std.specs.List.{IsDistinct, find, list_any, range_with_len, slice_get}
use Rattle.std.specs.Option.{option_to_list, unwrap_or}
use Rattle.table_laws.proofs.RowFits.{and_true}
use Rattle.session_laws.proofs.Plans.Facts.{none_some, not_true, some_or_none, true_false, or_cases}
use Rattle.table_laws.proofs.OrderLemmas.{cond_none}
use Rattle.row_order.specs.Places.{IsCycle, IsOrder, IsRing, cycle_from, first_places, from_row, holds_up, is_among, is_ready, least_left, next_blocker, next_place, order, order_or_cycle, trail, unless_left}

-- ---- what a search finds

cond_some : {A : Type 0} (b : Bool) (x y : A) (o : Option A) → cond b (Some x) o ≡ Some y → ((b ≡ true) × (x ≡ y)) ⊎ ((b ≡ false) × (o ≡ Some y))
cond_some true x y o e = inl (refl, some e)
  where
    some : Some x ≡ Some y → x ≡ y
    some f = cc
cond_some false x y o e = inr (refl, e)

pub find_passes : {A : Type 0} (p : A → Bool) (xs : List A) (x : A) → find p xs ≡ Some x → p x ≡ true
find_passes p [] x e = absurd (none_some x e)
find_passes p (y ∷ ys) x e =
    elim (cond_some (p y) y x (find p ys) e) [
      | inl here ↦ subst (λ z. p z ≡ true) here.1 here.0
      | inr there ↦ find_passes p ys x there.1
    ]

pub find_within : (p : ℕ → Bool) (a n x : ℕ) → find p (range_with_len a n) ≡ Some x → x < a + n
find_within p a zero x e = absurd (none_some x e)
find_within p a (suc n) x e =
    elim (cond_some (p a) a x (find p (range_with_len (a + 1) n)) e) [
      | inl here ↦ let same : a ≡ x = here.1 in omega arith
      | inr there ↦ let h : x < (a + 1) + n = find_within p (a + 1) n x there.1 in omega arith
    ]

pub find_fails : (p : ℕ → Bool) (a n x : ℕ) → find p (range_with_len a n) ≡ None → a ≤ x → x < a + n → p x ≡ false
find_fails p a zero x e h k = absurd (omega arith)
find_fails p a (suc n) x e h k =
    let both = cond_none (p a) a (find p (range_with_len (a + 1) n)) e in
    elim (cases_lt a x) [
      | inl there ↦ find_fails p (a + 1) n x both.1 (omega arith) (omega arith)
      | inr here ↦ let same : a ≡ x = omega arith in subst (λ z. p z ≡ false) same both.0
    ]

not_false : (b : Bool) → not b ≡ false → b ≡ true
not_false true e = refl
not_false false e = cc

any_here : (p : ℕ → Bool) (x : ℕ) (xs : List ℕ) (b : Bool) → (list_any p xs ≡ true → (y : ℕ) × (find p xs ≡ Some y)) → (b || list_any p xs) ≡ true → (y : ℕ) × (cond b (Some x) (find p xs) ≡ Some y)
any_here p x xs true more e = (x, refl)
any_here p x xs false more e = more e

any_find : (p : ℕ → Bool) (xs : List ℕ) → list_any p xs ≡ true → (x : ℕ) × (find p xs ≡ Some x)
any_find p [] e = absurd (true_false (sym e))
any_find p (x ∷ xs) e = any_here p x xs (p x) (any_find p xs) e

-- ---- members

among_push : (rows : List ℕ) (row q : ℕ) → is_among (rows ++ row ∷ []) q ≡ true → (is_among rows q ≡ true) ⊎ (q ≡ row)
among_push rows row q e =
    elim (or_cases (is_among rows q) (eqb q row || false) (sym (list_any-append (eqb q) rows (row ∷ [])) ∙ e)) [
      | inl before ↦ inl before
      | inr last ↦ elim (or_cases (eqb q row) false last) [
        | inl same ↦ inr (eqb-true q row same)
        | inr none ↦ absurd (true_false (sym none))
      ]
    ]

module _ (waits : ℕ → ℕ → Bool) (size : ℕ) where
  first_some : (n t : ℕ) → next_place waits size (first_places waits size n) ≡ Some t → first_places waits size (suc n) ≡ first_places waits size n ++ t ∷ []
  unfolding first_places
  first_some n t e = ap (λ o. first_places waits size n ++ option_to_list o) e

  append_none : (xs : List ℕ) → xs ++ [] ≡ xs
  append_none [] = refl
  append_none (x ∷ xs) = ap (λ ys. x ∷ ys) (append_none xs)

  first_stuck : (n : ℕ) → next_place waits size (first_places waits size n) ≡ None → first_places waits size (suc n) ≡ first_places waits size n
  unfolding first_places
  first_stuck n e = ap (λ o. first_places waits size n ++ option_to_list o) e ∙ append_none (first_places waits size n)

  first_zero : first_places waits size 0 ≡ []
  unfolding first_places
  first_zero = refl

  next_within : (placed : List ℕ) (t : ℕ) → next_place waits size placed ≡ Some t → t < size
  unfolding next_place
  next_within placed t e = omega (arith, find_within (is_ready waits size placed) 0 size t e)

  next_left : (placed : List ℕ) (t : ℕ) → next_place waits size placed ≡ Some t → is_among placed t ≡ false
  unfolding next_place
  next_left placed t e = not_true (is_among placed t) (and_true (not (is_among placed t)) (not (list_any (holds_up waits placed t) (range_with_len 0 size))) (find_passes (is_ready waits size placed) (range_with_len 0 size) t e)).0

  -- each row stands once, and is one
  pub first_distinct : (n : ℕ) → IsDistinct eqb (first_places waits size n)
  unfolding IsDistinct
  first_distinct zero = rw first_zero tt
  first_distinct (suc n) =
      elim (some_or_none (next_place waits size (first_places waits size n))) [
        | inl t ↦ rw (first_some n t.0 t.1) (IsDistinct-push nat_eq_equiv (first_places waits size n) t.0 (first_distinct n) (next_left (first_places waits size n) t.0 t.1))
        | inr none ↦ rw (first_stuck n none) (first_distinct n)
      ]

  pub first_within : (n q : ℕ) → is_among (first_places waits size n) q ≡ true → q < size
  first_within zero q e = absurd (true_false (sym e ∙ ap (λ xs. is_among xs q) first_zero))
  first_within (suc n) q e =
      elim (some_or_none (next_place waits size (first_places waits size n))) [
        | inl t ↦ elim (among_push (first_places waits size n) t.0 q (ap (λ xs. is_among xs q) (sym (first_some n t.0 t.1)) ∙ e)) [
          | inl before ↦ first_within n q before
          | inr last ↦ let h : t.0 < size = next_within (first_places waits size n) t.0 t.1 in omega arith
        ]
        | inr none ↦ first_within n q (ap (λ xs. is_among xs q) (sym (first_stuck n none)) ∙ e)
      ]

  first_most : (n : ℕ) → length (first_places waits size n) ≤ n
  first_most zero = omega (arith, ap length first_zero)
  first_most (suc n) =
      let before = first_most n in
      elim (some_or_none (next_place waits size (first_places waits size n))) [
        | inl t ↦ omega (arith, ap length (first_some n t.0 t.1) ∙ length-append (first_places waits size n) (t.0 ∷ []))
        | inr none ↦ omega (arith, ap length (first_stuck n none))
      ]

  -- either one row more each time, or none is ready
  progress : (n : ℕ) → (length (first_places waits size n) ≡ n) ⊎ (next_place waits size (first_places waits size n) ≡ None)
  progress zero = inl (ap length first_zero)
  progress (suc n) =
      elim (some_or_none (next_place waits size (first_places waits size n))) [
        | inl t ↦ elim (progress n) [
          | inl so ↦ inl (omega (arith, so, ap length (first_some n t.0 t.1) ∙ length-append (first_places waits size n) (t.0 ∷ [])))
          | inr stuck ↦ absurd (none_some t.0 (sym stuck ∙ t.1))
        ]
        | inr none ↦ inr (ap (next_place waits size) (first_stuck n none) ∙ none)
      ]

  -- a list of rows that stand once is no longer than there are rows
  too_many : (rows : List ℕ) → IsDistinct eqb rows → ((q : ℕ) → is_among rows q ≡ true → q < size) → length rows ≤ size
  too_many rows once within = length-le_from_distinct_below rows size once within

  left_over : (row : ℕ) → least_left size (order waits size) ≡ Some row → next_place waits size (order waits size) ≡ None
  unfolding order least_left
  left_over row e =
      let placed : List ℕ = first_places waits size size in
      let out : is_among placed row ≡ false = not_true (is_among placed row) (find_passes (λ r. not (is_among placed r)) (range_with_len 0 size) row e) in
      let here : row < size = omega (arith, find_within (λ r. not (is_among placed r)) 0 size row e) in
      elim (progress size) [
        | inl whole ↦
            let longer : length (placed ++ row ∷ []) ≤ size = too_many (placed ++ row ∷ []) (IsDistinct-push nat_eq_equiv placed row (first_distinct size) out)
            (λ q among. elim (among_push placed row q among) [
              | inl before ↦ first_within size q before
              | inr last ↦ omega arith
            ]) in
            absurd (omega (arith, length-append placed (row ∷ [])))
        | inr none ↦ none
      ]

  -- ---- the order is whole where no row is left

  all_among : least_left size (order waits size) ≡ None → (q : ℕ) → q < size → is_among (order waits size) q ≡ true
  unfolding least_left
  all_among e q h = not_false (is_among (order waits size) q) (find_fails (λ r. not (is_among (order waits size) r)) 0 size q e (omega arith) (omega arith))

  order_long : least_left size (order waits size) ≡ None → length (order waits size) ≡ size
  unfolding order
  order_long e = omega (arith, first_most size, le-length_from_below (first_places waits size size) size (all_among e))

  -- a whole list was whole at each place
  whole_before : (n : ℕ) → length (first_places waits size (suc n)) ≡ suc n → length (first_places waits size n) ≡ n
  whole_before n e =
      elim (some_or_none (next_place waits size (first_places waits size n))) [
        | inl t ↦ omega (arith, e, ap length (first_some n t.0 t.1) ∙ length-append (first_places waits size n) (t.0 ∷ []))
        | inr none ↦ absurd (omega (arith, e, first_most n, ap length (first_stuck n none)))
      ]

  whole_at : (n : ℕ) → length (first_places waits size n) ≡ n → (place : ℕ) → place ≤ n → length (first_places waits size place) ≡ place
  whole_at zero e place h = let none : place ≡ 0 = omega arith in ap (λ k. length (first_places waits size k)) none ∙ e ∙ sym none
  whole_at (suc n) e place h =
      elim (cases_lt n place) [
        | inl last ↦ let same : suc n ≡ place = omega arith in subst (λ k. length (first_places waits size k) ≡ k) same e
        | inr within ↦ whole_at n (whole_before n e) place (omega arith)
      ]

  next_of : (n : ℕ) → length (first_places waits size (suc n)) ≡ suc n → (t : ℕ) × (next_place waits size (first_places waits size n) ≡ Some t)
  next_of n e =
      elim (some_or_none (next_place waits size (first_places waits size n))) [
        | inl t ↦ t
        | inr none ↦ absurd (omega (arith, e, first_most n, ap length (first_stuck n none)))
      ]

  first_take : (n : ℕ) → length (first_places waits size n) ≡ n → (place : ℕ) → place ≤ n → take place (first_places waits size n) ≡ first_places waits size place
  first_take zero e place h = let none : place ≡ 0 = omega arith in rw none (sym first_zero)
  first_take (suc n) e place h =
      elim (cases_lt n place) [
        | inl last ↦
            let whole : suc n ≡ place = omega arith in
            rw (← whole) (take_all (suc n) (first_places waits size (suc n)) (omega (arith, e)))
        | inr within ↦
            let t = next_of n e in
            let before : length (first_places waits size n) ≡ n = whole_before n e in
            ap (take place) (first_some n t.0 t.1)
            ∙ take-append-le place (first_places waits size n) (t.0 ∷ []) (omega arith)
            ∙ first_take n before place (omega arith)
      ]

  next_at : (n : ℕ) → length (first_places waits size size) ≡ size → n < size → next_place waits size (take n (first_places waits size size)) ≡ slice_get (first_places waits size size) n
  next_at n e h =
      let here : length (first_places waits size (suc n)) ≡ suc n = whole_at size e (suc n) (omega arith) in
      let before : length (first_places waits size n) ≡ n = whole_before n here in
      let t = next_of n here in
      let seam : get_or (first_places waits size n ++ t.0 ∷ []) n t.0 ≡ t.0 = ap (λ k. get_or (first_places waits size n ++ t.0 ∷ []) k t.0) (sym before) ∙ get_or-append_seam (first_places waits size n) t.0 [] t.0 in
      let ahead : take (suc n) (first_places waits size size) ≡ first_places waits size n ++ t.0 ∷ [] = first_take size e (suc n) (omega arith) ∙ first_some n t.0 t.1 in
      ap (next_place waits size) (first_take size e n (omega arith)) ∙ t.1
      ∙ sym (slice_get-get_or (first_places waits size size) n t.0 (omega (arith, e))
      ∙ ap Some (sym (get_or-take (suc n) (first_places waits size size) n t.0 (omega arith)) ∙ ap (λ xs. get_or xs n t.0) ahead ∙ seam))

  order_whole : least_left size (order waits size) ≡ None → IsOrder waits size (order waits size)
  unfolding order
  order_whole e =
      let long : length (first_places waits size size) ≡ size = order_long e in
      record { whole = long; each = all_among e; next = λ place h. next_at place long (omega (arith, long)) }

  -- ---- a ring where rows are left

  abbrev Left : ℕ → Type 0
  Left row = (row < size) × (is_among (order waits size) row ≡ false)

  -- each of the path waits for the next, and the last for the row
  abbrev Path : List ℕ → ℕ → Type 0
  Path [] row = Unit {0}
  Path (first ∷ path) row = IsRing waits row (first ∷ path)

  path_push : (path : List ℕ) (row next : ℕ) → Path path row → waits row next ≡ true → Path (path ++ row ∷ []) next
  path_push [] row next p w = w
  path_push (first ∷ []) row next p w = (p, w)
  path_push (first ∷ second ∷ path) row next p w = (p.0, path_push (second ∷ path) row next p.1 w)

  ring_here : (b : Bool) (row first : ℕ) (path : List ℕ) → eqb row first ≡ b → IsRing waits row (first ∷ path) → (is_among path row ≡ true → IsCycle waits (from_row row path)) → (b || is_among path row) ≡ true → IsCycle waits (cond b (first ∷ path) (from_row row path))
  ring_here true row first path same ring more among = subst (λ r. IsRing waits r (first ∷ path)) (eqb-true row first same) ring
  ring_here false row first path same ring more among = more among

  ring_from : (path : List ℕ) (row : ℕ) → Path path row → is_among path row ≡ true → IsCycle waits (from_row row path)
  ring_from [] row p among = absurd (true_false (sym among))
  ring_from (first ∷ []) row p among = ring_here (eqb row first) row first [] refl p (λ more. absurd (true_false (sym more))) among
  ring_from (first ∷ second ∷ path) row p among = ring_here (eqb row first) row first (second ∷ path) refl p (ring_from (second ∷ path) row p.1) among

  blocked : next_place waits size (order waits size) ≡ None → (row : ℕ) → Left row → (other : ℕ) × (find (holds_up waits (order waits size) row) (range_with_len 0 size) ≡ Some other)
  unfolding next_place
  blocked e row left =
      let placed : List ℕ = order waits size in
      let unready : (not (is_among placed row) && not (list_any (holds_up waits placed row) (range_with_len 0 size))) ≡ false = find_fails (is_ready waits size placed) 0 size row e (omega arith) (omega (arith, left.0)) in
      let some : list_any (holds_up waits placed row) (range_with_len 0 size) ≡ true = not_false (list_any (holds_up waits placed row) (range_with_len 0 size)) (sym (ap (λ b. not b && not (list_any (holds_up waits placed row) (range_with_len 0 size))) left.1) ∙ unready) in
      any_find (holds_up waits placed row) (range_with_len 0 size) some

  step : next_place waits size (order waits size) ≡ None → (row : ℕ) → Left row → (waits row (next_blocker waits size (order waits size) row) ≡ true) × Left (next_blocker waits size (order waits size) row)
  unfolding next_blocker
  step e row left =
      let other = blocked e row left in
      let both = and_true (not (is_among (order waits size) other.0)) (waits row other.0) (find_passes (holds_up waits (order waits size) row) (range_with_len 0 size) other.0 other.1) in
      let is : unwrap_or (find (holds_up waits (order waits size) row) (range_with_len 0 size)) row ≡ other.0 = ap (λ o. unwrap_or o row) other.1 in
      (ap (waits row) is ∙ both.1, (subst (λ k. k < size) (sym is) (omega (arith, find_within (holds_up waits (order waits size) row) 0 size other.0 other.1)), ap (is_among (order waits size)) is ∙ not_true (is_among (order waits size) other.0) both.0))

  trail_here : (b : Bool) (path : List ℕ) (row : ℕ) (more : List ℕ) → is_among path row ≡ b → Path path row → (is_among path row ≡ false → IsCycle waits more) → IsCycle waits (cond b (from_row row path) more)
  trail_here true path row more among p later = ring_from path row p among
  trail_here false path row more among p later = later among

  trail_ring : next_place waits size (order waits size) ≡ None → (steps : ℕ) (path : List ℕ) (row : ℕ) → steps + length path ≡ suc size → IsDistinct eqb path → ((q : ℕ) → is_among path q ≡ true → q < size) → Path path row → Left row → IsCycle waits (trail (next_blocker waits size (order waits size)) steps path row)
  trail_ring e zero path row count once within p left = absurd (omega (arith, count, too_many path once within))
  trail_ring e (suc steps) path row count once within p left =
      let next = step e row left in
      trail_here (is_among path row) path row (trail (next_blocker waits size (order waits size)) steps (path ++ row ∷ []) (next_blocker waits size (order waits size) row)) refl p
      (λ fresh. trail_ring e steps (path ++ row ∷ []) (next_blocker waits size (order waits size) row)
      (omega (arith, count, length-append path (row ∷ [])))
      (IsDistinct-push nat_eq_equiv path row once fresh)
      (λ q among. elim (among_push path row q among) [
        | inl before ↦ within q before
        | inr last ↦ subst (λ k. k < size) (sym last) left.0
      ])
      (path_push path row (next_blocker waits size (order waits size) row) p next.0)
      next.1)

  cycle_ring : (row : ℕ) → least_left size (order waits size) ≡ Some row → IsCycle waits (cycle_from waits size row)
  unfolding cycle_from least_left IsDistinct
  cycle_ring row e =
      trail_ring (left_over row e) (suc size) [] row (omega arith) tt (λ q among. absurd (true_false (sym among))) tt
      (omega (arith, find_within (λ r. not (is_among (order waits size) r)) 0 size row e), not_true (is_among (order waits size) row) (find_passes (λ r. not (is_among (order waits size) r)) (range_with_len 0 size) row e))

  abbrev okay : List ℕ → Result (List ℕ) (List ℕ)
  okay rows = Ok rows

  abbrev error : List ℕ → Result (List ℕ) (List ℕ)
  error rows = Err rows

  same_ok : (one other : List ℕ) → okay one ≡ okay other → one ≡ other
  same_ok one other e = cc

  same_err : (one other : List ℕ) → error one ≡ error other → one ≡ other
  same_err one other e = cc

  ok_err : (one other : List ℕ) → okay one ≡ error other → ⊥
  ok_err one other e = cc

  pub ok_rows : (o : Option ℕ) (rows : List ℕ) → unless_left waits size o ≡ Ok rows → (o ≡ None) × (order waits size ≡ rows)
  ok_rows None rows e = (refl, same_ok (order waits size) rows e)
  ok_rows (Some row) rows e = absurd (ok_err rows (cycle_from waits size row) (sym e))

  err_rows : (o : Option ℕ) (rows : List ℕ) → unless_left waits size o ≡ Err rows → (row : ℕ) × (o ≡ Some row) × (cycle_from waits size row ≡ rows)
  err_rows None rows e = absurd (ok_err (order waits size) rows e)
  err_rows (Some row) rows e = (row, refl, same_err (cycle_from waits size row) rows e)

pub order_is : (waits : ℕ → ℕ → Bool) (size : ℕ) (rows : List ℕ) → order_or_cycle waits size ≡ Ok rows → IsOrder waits size rows
unfolding order_or_cycle
order_is waits size rows e =
    let both = ok_rows waits size (least_left size (order waits size)) rows e in
    subst (IsOrder waits size) both.1 (order_whole waits size both.0)

pub cycle_is : (waits : ℕ → ℕ → Bool) (size : ℕ) (rows : List ℕ) → order_or_cycle waits size ≡ Err rows → IsCycle waits rows
unfolding order_or_cycle
cycle_is waits size rows e =
    let found = err_rows waits size (least_left size (order waits size)) rows e in
    subst (IsCycle waits) found.2 (cycle_ring waits size found.0 found.1)

pub order_distinct : (waits : ℕ → ℕ → Bool) (size : ℕ) (rows : List ℕ) → order_or_cycle waits size ≡ Ok rows → IsDistinct eqb rows
unfolding order_or_cycle order
order_distinct waits size rows e =
    subst (IsDistinct eqb) (ok_rows waits size (least_left size (order waits size)) rows e).1 (first_distinct waits size size)

pub order_within : (waits : ℕ → ℕ → Bool) (size : ℕ) (rows : List ℕ) (q : ℕ) → order_or_cycle waits size ≡ Ok rows → is_among rows q ≡ true → q < size
unfolding order_or_cycle order
order_within waits size rows q e among =
    first_within waits size size q (ap (λ xs. is_among xs q) (ok_rows waits size (least_left size (order waits size)) rows e).1 ∙ among)

pub ruleset order_laws = (order_is, cycle_is)
