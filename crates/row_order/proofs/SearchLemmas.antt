-- The rows that are left in a list, and the search for the least row that is ready.
use Rattle.std.proofs.Common.{◌≡◌, ◌≢◌, ℕ, zero, suc, ◌+◌, ◌<◌, ◌≤◌, Bool, true, false, cond, not, ◌&&◌, ◌||◌, List, [], ◌∷◌, ◌++◌, length, map, get_or, drop, set, Option, None, Some, inl, inr, refl, sym, ap, ◌∙◌, subst, add-one, arith}
use Rattle.std.proofs.lemmas.Bool.{cases_lt, eq-eqb, eqb-true, lt-ltb, ltb-true}
use Rattle.std.proofs.lemmas.Bool.Decides.{eqb_tells}
use Rattle.std.proofs.Math.ListN.{get_or-map, replicate}
use Rattle.std.proofs.lemmas.List.{get_or-replicate, get_or-set_other, get_or-set_same, length-map, length-replicate, length-set}
use Rattle.std.proofs.lemmas.List.Folds.{list_any-append, list_any_at, list_any_none}
use Rattle.std.proofs.lemmas.List.FromFn.{get_or-range_with_len, length-range_with_len}
use Rattle.std.proofs.lemmas.List.Sums.{sum_by-cons}
use Rattle.std.specs.Prelude.{nat_eq, nat_lt}
use Rattle.std.specs.BTreeSet.{BTreeSet, contains}
use Rattle.std.specs.List.{All, find, list_any, range_with_len}
use Rattle.std.specs.Option.{option_to_list}
use Rattle.std.specs.Ordering.{nat_cmp}
use Rattle.base_core.proofs.Lists.{get_beyond}
use Rattle.base_core.proofs.Tests.{or_false, or_first, or_rest, or_then}
use Rattle.row_order.specs.Places.{holds_up, is_among, is_ready, next_place}
use Rattle.row_order.specs.Lists.{AreMirrored, AreRows, Stands, left_in, list_at, waits_in, times}
use Rattle.row_order.proofs.Ranges.{find_found, find_none, find_passed}

-- ---- tests

same_eq : (a b : ℕ) → nat_eq a b ≡ nat_eq b a
same_eq a b = elim (eqb_tells a b) [
  | inl w ↦ w.0 ∙ sym (eq-eqb b a (sym w.1))
  | inr w ↦ elim (eqb_tells b a) [ inl v ↦ absurd (w.1 (sym v.1)) | inr v ↦ w.0 ∙ sym v.0 ]
]

both : (a b c : Bool) → (a && (b && c)) ≡ true → (a ≡ true) × (b ≡ true) × (c ≡ true)
both true true true h = (refl, refl, refl)
both true true false h = absurd (cc)
both true false c h = absurd (cc)
both false b c h = absurd (cc)

not_true : (b : Bool) → not b ≡ true → b ≡ false
not_true true h = absurd (cc)
not_true false h = refl

-- ---- places in lists

pub among_push : (placed : List ℕ) (row x : ℕ) → is_among (placed ++ row ∷ []) x ≡ (is_among placed x || nat_eq x row)
among_push placed row x = list_any-append (nat_eq x) placed (row ∷ []) ∙ ap (λ b. is_among placed x || b) (or_false (nat_eq x row))

among_within : (n : ℕ) (xs : List ℕ) → All (λ o. o < n) xs → (o : ℕ) → is_among xs o ≡ true → o < n
among_within n [] all o h = absurd (cc)
among_within n (x ∷ xs) all o h = elim (eqb_tells o x) [
  | inl w ↦ subst (λ r. r < n) (sym w.1) (all 0 0 (omega arith))
  | inr w ↦ among_within n xs (λ k d l. all (suc k) d (omega (arith, l))) o (or_rest (nat_eq o x) (is_among xs o) h w.0)
]

left_cons : (placed : List ℕ) (x : ℕ) (xs : List ℕ) → left_in placed (x ∷ xs) ≡ cond (not (is_among placed x)) 1 0 + left_in placed xs
left_cons placed x xs = sum_by-cons (λ row. cond (not (is_among placed row)) 1 0) x xs

pub times_cons : (row x : ℕ) (xs : List ℕ) → times row (x ∷ xs) ≡ cond (nat_eq row x) 1 0 + times row xs
times_cons row x xs = sum_by-cons (λ other. cond (nat_eq row other) 1 0) x xs

pub left_all : (xs : List ℕ) → left_in [] xs ≡ length xs
left_all [] = refl
left_all (x ∷ xs) = omega (arith, left_cons [] x xs, left_all xs)

one_push : (a b : Bool) → (b ≡ true → a ≡ false) → cond (not a) 1 0 ≡ cond (not (a || b)) 1 0 + cond b 1 0
one_push true true h = let e : true ≡ false = h refl in absurd (cc)
one_push true false h = refl
one_push false true h = refl
one_push false false h = refl

-- a row that is placed is no longer left
left_push : (placed : List ℕ) (row : ℕ) (xs : List ℕ) → is_among placed row ≡ false → left_in placed xs ≡ left_in (placed ++ row ∷ []) xs + times row xs
left_push placed row [] free = refl
left_push placed row (x ∷ xs) free =
    let is : is_among (placed ++ row ∷ []) x ≡ (is_among placed x || nat_eq row x) = among_push placed row x ∙ ap (λ b. is_among placed x || b) (same_eq x row) in
    let one : cond (not (is_among placed x)) 1 0 ≡ cond (not (is_among (placed ++ row ∷ []) x)) 1 0 + cond (nat_eq row x) 1 0 =
    one_push (is_among placed x) (nat_eq row x) (λ e. subst (λ r. is_among placed r ≡ false) (eqb-true row x e) free)
    ∙ ap (λ b. cond (not b) 1 0 + cond (nat_eq row x) 1 0) (sym is) in
    omega (arith, left_cons placed x xs, left_cons (placed ++ row ∷ []) x xs, times_cons row x xs, one, left_push placed row xs free)

front : (b : Bool) (n : ℕ) → cond (not b) 1 0 + n ≡ 0 → (b ≡ true) × (n ≡ 0)
front true n e = (refl, omega (arith, e))
front false n e = absurd (omega (arith, e))

none_left : (placed xs : List ℕ) → left_in placed xs ≡ 0 → (o : ℕ) → is_among xs o ≡ true → is_among placed o ≡ true
none_left placed [] e o h = absurd (cc)
none_left placed (x ∷ xs) e o h =
    let parts = front (is_among placed x) (left_in placed xs) (sym (left_cons placed x xs) ∙ e) in
    elim (eqb_tells o x) [
      | inl w ↦ subst (λ r. is_among placed r ≡ true) (sym w.1) parts.0
      | inr w ↦ none_left placed xs parts.1 o (or_rest (nat_eq o x) (is_among xs o) h w.0)
    ]

abbrev Left : List ℕ → List ℕ → Type 0
Left placed xs = (o : ℕ) × (is_among xs o ≡ true) × (is_among placed o ≡ false)

some_left : (placed xs : List ℕ) → 0 < left_in placed xs → Left placed xs
some_left placed [] h = absurd (omega (arith, h))
some_left placed (x ∷ xs) h = by (is_among placed x) refl (λ more. some_left placed xs more)
  where
    by : (b : Bool) → is_among placed x ≡ b → (0 < left_in placed xs → Left placed xs) → Left placed (x ∷ xs)
    by false e rest = (x, or_first (nat_eq x x) (is_among xs x) (eq-eqb x x refl), e)
    by true e rest =
        let front_is : cond (not (is_among placed x)) 1 0 ≡ 0 = ap {B = ℕ} (λ b. cond (not b) 1 0) e in
        let w = rest (omega (arith, h, left_cons placed x xs, front_is)) in
        (w.0, or_then (nat_eq w.0 x) (is_among xs w.0) w.1, w.2)

-- ---- tests of all places

any_range : (p : ℕ → Bool) (n i : ℕ) → i < n → p i ≡ true → list_any p (range_with_len 0 n) ≡ true
any_range p n i h passes =
    list_any_at p (range_with_len 0 n) i 0 (omega (arith, h, length-range_with_len 0 n)) (ap p (get_or-range_with_len 0 n i 0 h ∙ omega arith) ∙ passes)

none_range : (p : ℕ → Bool) (n : ℕ) → ((i : ℕ) → i < n → p i ≡ false) → list_any p (range_with_len 0 n) ≡ false
none_range p n all =
    list_any_none p (range_with_len 0 n) (λ k d h.
    let less : k < n = omega (arith, h, length-range_with_len 0 n) in
    ap p (get_or-range_with_len 0 n k d less ∙ omega arith) ∙ all k less)

skipped : (p : ℕ → Bool) (n i : ℕ) → i ≤ n → ((k : ℕ) → k < i → p k ≡ false) → find p (drop i (range_with_len 0 n)) ≡ find p (range_with_len 0 n)
skipped p n zero h all = refl
skipped p n (suc i) h all =
    ap (λ k. find p (drop k (range_with_len 0 n))) (sym (add-one i))
    ∙ find_passed p n i (omega (arith, h)) (all i (omega arith))
    ∙ skipped p n i (omega (arith, h)) (λ k l. all k (omega (arith, l)))

pub find_first : (p : ℕ → Bool) (n i : ℕ) → i < n → p i ≡ true → ((k : ℕ) → k < i → p k ≡ false) → find p (range_with_len 0 n) ≡ Some i
find_first p n i h passes all = sym (skipped p n i (omega (arith, h)) all) ∙ find_found p n i h passes

pub find_nothing : (p : ℕ → Bool) (n : ℕ) → ((k : ℕ) → k < n → p k ≡ false) → find p (range_with_len 0 n) ≡ None
find_nothing p n all = sym (skipped p n n (omega arith) all) ∙ find_none p n n (omega arith)

-- ---- which rows are ready

up_false : (a b : Bool) → (b ≡ true → a ≡ true) → (not a && b) ≡ false
up_false true b h = refl
up_false false true h = let e : false ≡ true = h refl in absurd (cc)
up_false false false h = refl

waits_any : (lists : List (List ℕ)) (placed : List ℕ) (row : ℕ) → AreRows lists → list_any (holds_up (waits_in lists) placed row) (range_with_len 0 (length lists)) ≡ not (nat_eq (left_in placed (list_at lists row)) 0)
waits_any lists placed row rows = elim (eqb_tells (left_in placed (list_at lists row)) 0) [
  | inl w ↦
      none_range (holds_up (waits_in lists) placed row) (length lists) (λ o l. up_false (is_among placed o) (waits_in lists row o) (none_left placed (list_at lists row) w.1 o))
      ∙ ap not (sym w.0)
  | inr w ↦
      let found = some_left placed (list_at lists row) (omega (arith, w.1)) in
      any_range (holds_up (waits_in lists) placed row) (length lists) found.0 (among_within (length lists) (list_at lists row) (rows row) found.0 found.1)
      (ap (λ b. not b && waits_in lists row found.0) found.2 ∙ found.1)
      ∙ ap not (sym w.0)
]

not_not : (a b c : Bool) → c ≡ not b → (a && not c) ≡ (a && b)
not_not a true c e = ap (λ b. a && not b) e
not_not a false c e = ap (λ b. a && not b) e

ready_is : (lists : List (List ℕ)) (placed : List ℕ) (row : ℕ) → AreRows lists → is_ready (waits_in lists) (length lists) placed row ≡ (not (is_among placed row) && nat_eq (left_in placed (list_at lists row)) 0)
ready_is lists placed row rows = not_not (not (is_among placed row)) (nat_eq (left_in placed (list_at lists row)) 0) (list_any (holds_up (waits_in lists) placed row) (range_with_len 0 (length lists))) (waits_any lists placed row rows)

ready_counted : (lists : List (List ℕ)) (placed counts : List ℕ) (left : List Bool) (ready : BTreeSet ℕ) (row : ℕ) → AreRows lists → Stands lists placed counts left ready → row < length lists → contains nat_cmp ready row ≡ is_ready (waits_in lists) (length lists) placed row
ready_counted lists placed counts left ready row rows stands h =
    stands.readies row
    ∙ ap (λ b. b && (not (is_among placed row) && nat_eq (get_or counts row 0) 0)) (lt-ltb row (length lists) h)
    ∙ ap (λ n. not (is_among placed row) && nat_eq n 0) (stands.holds row h)
    ∙ sym (ready_is lists placed row rows)

pub next_is : (lists : List (List ℕ)) (placed counts : List ℕ) (left : List Bool) (ready : BTreeSet ℕ) (row : ℕ) → AreRows lists → Stands lists placed counts left ready → contains nat_cmp ready row ≡ true → ((k : ℕ) → k < row → contains nat_cmp ready k ≡ false) → next_place (waits_in lists) (length lists) placed ≡ Some row
unfolding next_place
next_is lists placed counts left ready row rows stands here before =
    let parts = both (nat_lt row (length lists)) (not (is_among placed row)) (nat_eq (get_or counts row 0) 0) (sym (stands.readies row) ∙ here) in
    let less : row < length lists = ltb-true row (length lists) parts.0 in
    find_first (is_ready (waits_in lists) (length lists) placed) (length lists) row less
    (sym (ready_counted lists placed counts left ready row rows stands less) ∙ here)
    (λ k l. sym (ready_counted lists placed counts left ready k rows stands (omega (arith, l, less))) ∙ before k l)

pub next_none : (lists : List (List ℕ)) (placed counts : List ℕ) (left : List Bool) (ready : BTreeSet ℕ) → AreRows lists → Stands lists placed counts left ready → ((k : ℕ) → contains nat_cmp ready k ≡ false) → next_place (waits_in lists) (length lists) placed ≡ None
unfolding next_place
next_none lists placed counts left ready rows stands none =
    find_nothing (is_ready (waits_in lists) (length lists) placed) (length lists)
    (λ k l. sym (ready_counted lists placed counts left ready k rows stands l) ∙ none k)

-- ---- how the search stands after one more row

-- what placing a row does to the rows that wait for it
pub record Moves (waiting : List ℕ) (row : ℕ) (counts counts_then : List ℕ) (ready ready_then : BTreeSet ℕ) : Type 0 where
  pub size : length counts_then ≡ length counts
  pub sums : (other : ℕ) → get_or counts_then other 0 + times other waiting ≡ get_or counts other 0
  pub readies : (other : ℕ) → contains nat_cmp ready_then other ≡ (cond (nat_eq row other) false (contains nat_cmp ready other) || (nat_lt 0 (times other waiting) && nat_eq (get_or counts_then other 0) 0))

among_other : (placed : List ℕ) (row o : ℕ) → nat_eq row o ≡ false → is_among (placed ++ row ∷ []) o ≡ is_among placed o
among_other placed row o e = among_push placed row o ∙ ap (λ b. is_among placed o || b) (same_eq o row ∙ e) ∙ or_false (is_among placed o)

among_last : (placed : List ℕ) (row : ℕ) → is_among (placed ++ row ∷ []) row ≡ true
among_last placed row = among_push placed row row ∙ or_then (is_among placed row) (nat_eq row row) (eq-eqb row row refl)

never : (a b : Bool) → (a && (false && b)) ≡ false
never true b = refl
never false b = refl

no_longer : (t c : ℕ) → t ≡ 0 → (nat_lt 0 t && nat_eq c 0) ≡ false
no_longer t c e = ap (λ n. nat_lt 0 n && nat_eq c 0) e

-- the readiness of another row
ready_other : (n t c d o : ℕ) (among : Bool) → d + t ≡ c → (n ≤ o → c ≡ 0) → (among ≡ true → c ≡ 0) → ((nat_lt o n && (not among && nat_eq c 0)) || (nat_lt 0 t && nat_eq d 0)) ≡ (nat_lt o n && (not among && nat_eq d 0))
ready_other n zero c d o among sum beyond done =
    or_false (nat_lt o n && (not among && nat_eq c 0)) ∙ ap (λ k. nat_lt o n && (not among && nat_eq k 0)) (omega (arith, sum))
ready_other n (suc t) c d o among sum beyond done =
    let some : nat_eq c 0 ≡ false = elim (eqb_tells c 0) [ inl w ↦ absurd (omega (arith, w.1, sum)) | inr w ↦ w.0 ] in
    let less : o < n = elim (eqb_tells c 0) [ inl w ↦ absurd (omega (arith, w.1, sum)) | inr w ↦ by_less beyond w.1 ] in
    let free : among ≡ false = free_of among (λ e. let z : c ≡ 0 = done e in omega (arith, z, sum)) in
    rest (nat_lt o n) among (nat_eq c 0) (nat_lt 0 (suc t)) (nat_eq d 0) (lt-ltb o n less) free some (lt-ltb 0 (suc t) (omega arith))
  where
    by_less : (n ≤ o → c ≡ 0) → c ≢ 0 → o < n
    by_less beyond some = elim (cases_lt o n) [ inl w ↦ w | inr w ↦ absurd (some (beyond w)) ]

    free_of : (b : Bool) → (b ≡ true → ⊥) → b ≡ false
    free_of true h = absurd (h refl)
    free_of false h = refl

    rest : (a b e f g : Bool) → a ≡ true → b ≡ false → e ≡ false → f ≡ true → ((a && (not b && e)) || (f && g)) ≡ (a && (not b && g))
    rest true false false true g p q r s = refl
    rest a b e f g p q r s = cc

pub stands_then : (lists waiting : List (List ℕ)) (placed counts counts_then : List ℕ) (left : List Bool) (ready ready_then : BTreeSet ℕ) (row : ℕ) → AreRows lists → AreMirrored lists waiting → Stands lists placed counts left ready → contains nat_cmp ready row ≡ true → Moves (list_at waiting row) row counts counts_then ready ready_then → Stands lists (placed ++ row ∷ []) counts_then (set left row false) ready_then
stands_then lists waiting placed counts counts_then left ready ready_then row rows mirror stands here moves =
    let parts = both (nat_lt row (length lists)) (not (is_among placed row)) (nat_eq (get_or counts row 0) 0) (sym (stands.readies row) ∙ here) in
    let less : row < length lists = ltb-true row (length lists) parts.0 in
    let free : is_among placed row ≡ false = not_true (is_among placed row) parts.1 in
    let zero_at : get_or counts row 0 ≡ 0 = eqb-true (get_or counts row 0) 0 parts.2 in
    record {
      counted = moves.size ∙ stands.counted;
      marked = length-set left row false ∙ stands.marked;
      holds = λ o l.
          let a = stands.holds o l in
          let b = left_push placed row (list_at lists o) free in
          let c = mirror.each o row l less in
          let d = moves.sums o in
          omega (arith, a, b, c, d);
      done = λ o l e. elim (eqb_tells row o) [
        | inl w ↦ let z : get_or counts o 0 ≡ 0 = ap (λ k. get_or counts k 0) (sym w.1) ∙ zero_at in omega (arith, z, moves.sums o)
        | inr w ↦ let z : get_or counts o 0 ≡ 0 = stands.done o l (sym (among_other placed row o w.0) ∙ e) in omega (arith, z, moves.sums o)
      ];
      marks = λ o l. elim (eqb_tells row o) [
        | inl w ↦
            ap (λ k. get_or (set left row false) k false) (sym w.1)
            ∙ get_or-set_same left row false false (omega (arith, less, stands.marked))
            ∙ ap not (sym (among_last placed row))
            ∙ ap (λ k. not (is_among (placed ++ row ∷ []) k)) w.1
        | inr w ↦
            get_or-set_other left row o false false (λ e. w.1 (sym e))
            ∙ stands.marks o l
            ∙ ap not (sym (among_other placed row o w.0))
      ];
      readies = λ o. elim (eqb_tells row o) [
        | inl w ↦
            let z : get_or counts o 0 ≡ 0 = ap (λ k. get_or counts k 0) (sym w.1) ∙ zero_at in
            let t : times o (list_at waiting row) ≡ 0 = omega (arith, z, moves.sums o) in
            moves.readies o
            ∙ ap (λ b. cond b false (contains nat_cmp ready o) || (nat_lt 0 (times o (list_at waiting row)) && nat_eq (get_or counts_then o 0) 0)) w.0
            ∙ no_longer (times o (list_at waiting row)) (get_or counts_then o 0) t
            ∙ sym (never (nat_lt o (length lists)) (nat_eq (get_or counts_then o 0) 0))
            ∙ ap (λ b. nat_lt o (length lists) && (not b && nat_eq (get_or counts_then o 0) 0)) (sym (ap (is_among (placed ++ row ∷ [])) (sym w.1) ∙ among_last placed row))
        | inr w ↦
            moves.readies o
            ∙ ap (λ b. cond b false (contains nat_cmp ready o) || (nat_lt 0 (times o (list_at waiting row)) && nat_eq (get_or counts_then o 0) 0)) w.0
            ∙ ap (λ b. b || (nat_lt 0 (times o (list_at waiting row)) && nat_eq (get_or counts_then o 0) 0)) (stands.readies o)
            ∙ ready_other (length lists) (times o (list_at waiting row)) (get_or counts o 0) (get_or counts_then o 0) o (is_among placed o) (moves.sums o)
            (λ far. get_beyond counts o 0 (omega (arith, far, stands.counted)))
            (λ e. elim (cases_lt o (length lists)) [ inl l ↦ stands.done o l e | inr far ↦ get_beyond counts o 0 (omega (arith, far, stands.counted)) ])
            ∙ ap (λ b. nat_lt o (length lists) && (not b && nat_eq (get_or counts_then o 0) 0)) (sym (among_other placed row o w.0))
      ];
    }

-- ---- the start

pub stands_same : (lists : List (List ℕ)) (placed counts : List ℕ) (left : List Bool) (ready ready_then : BTreeSet ℕ) → Stands lists placed counts left ready → ((o : ℕ) → contains nat_cmp ready o ≡ false) → ((o : ℕ) → contains nat_cmp ready_then o ≡ false) → Stands lists placed counts left ready_then
stands_same lists placed counts left ready ready_then stands none none_then = record {
  counted = stands.counted;
  marked = stands.marked;
  holds = stands.holds;
  done = stands.done;
  marks = stands.marks;
  readies = λ o. none_then o ∙ sym (none o) ∙ stands.readies o;
}

length_at : (lists : List (List ℕ)) (row : ℕ) → get_or (map length lists) row 0 ≡ length (list_at lists row)
length_at lists row = get_or-map length lists row []

pub stands_first : (lists : List (List ℕ)) (ready : BTreeSet ℕ) → ((o : ℕ) → contains nat_cmp ready o ≡ (nat_lt o (length lists) && nat_eq (length (list_at lists o)) 0)) → Stands lists [] (map length lists) (replicate (length lists) true) ready
stands_first lists ready readies = record {
  counted = length-map lists length;
  marked = length-replicate (length lists) true;
  holds = λ o l. length_at lists o ∙ sym (left_all (list_at lists o));
  done = λ o l e. absurd (cc);
  marks = λ o l. get_or-replicate (length lists) o true false l;
  readies = λ o. readies o ∙ ap (λ n. nat_lt o (length lists) && nat_eq n 0) (sym (length_at lists o));
}

pub stands_start : (lists : List (List ℕ)) (placed counts : List ℕ) (left : List Bool) (ready : BTreeSet ℕ) → placed ≡ [] → counts ≡ map length lists → left ≡ replicate (length lists) true → ((o : ℕ) → contains nat_cmp ready o ≡ (nat_lt o (length lists) && nat_eq (length (list_at lists o)) 0)) → Stands lists placed counts left ready
stands_start lists placed counts left ready e f g readies =
    subst (λ p. Stands lists p counts left ready) (sym e)
    (subst (λ cs. Stands lists [] cs left ready) (sym f)
    (subst (λ ls. Stands lists [] (map length lists) ls ready) (sym g) (stands_first lists ready readies)))

-- ---- a row that is ready

pub row_within : (lists : List (List ℕ)) (placed counts : List ℕ) (left : List Bool) (ready : BTreeSet ℕ) (row : ℕ) → Stands lists placed counts left ready → contains nat_cmp ready row ≡ true → row < length lists
row_within lists placed counts left ready row stands here =
    ltb-true row (length lists) (both (nat_lt row (length lists)) (not (is_among placed row)) (nat_eq (get_or counts row 0) 0) (sym (stands.readies row) ∙ here)).0

no_more_times : (a b o x : ℕ) → nat_eq o x ≡ false → a ≡ cond (nat_eq o x) 1 0 + b → b ≡ 0 → a ≡ 0
no_more_times a b o x apart e none = e ∙ ap (λ t. cond t 1 0 + b) apart ∙ omega (arith, none)

times_beyond : (n o : ℕ) (xs : List ℕ) → All (λ r. r < n) xs → n ≤ o → times o xs ≡ 0
times_beyond n o [] all h = refl
times_beyond n o (x ∷ xs) all h =
    let apart : nat_eq o x ≡ false = elim (eqb_tells o x) [ inl w ↦ absurd (omega (arith, w.1, h, all 0 0 (omega arith))) | inr w ↦ w.0 ] in
    no_more_times (times o (x ∷ xs)) (times o xs) o x apart (times_cons o x xs) (times_beyond n o xs (λ k d l. all (suc k) d (omega (arith, l))) h)

-- each row that waits for this one is counted as often
pub room : (lists waiting : List (List ℕ)) (placed counts : List ℕ) (left : List Bool) (ready : BTreeSet ℕ) (row : ℕ) → AreMirrored lists waiting → Stands lists placed counts left ready → contains nat_cmp ready row ≡ true → (o : ℕ) → times o (list_at waiting row) ≤ get_or counts o 0
room lists waiting placed counts left ready row mirror stands here o = elim (cases_lt o (length lists)) [
  | inl l ↦
      let parts = both (nat_lt row (length lists)) (not (is_among placed row)) (nat_eq (get_or counts row 0) 0) (sym (stands.readies row) ∙ here) in
      let less : row < length lists = ltb-true row (length lists) parts.0 in
      omega (arith, mirror.each o row l less, stands.holds o l, left_push placed row (list_at lists o) (not_true (is_among placed row) parts.1))
  | inr far ↦ omega (arith, times_beyond (length waiting) o (list_at waiting row) (mirror.rows row) (omega (arith, far, mirror.size)))
]

pub placed_then : (lists waiting : List (List ℕ)) (placed then_placed counts counts_then : List ℕ) (left : List Bool) (ready ready_mid ready_then : BTreeSet ℕ) (row : ℕ) (list : List ℕ)
    → AreRows lists → AreMirrored lists waiting → Stands lists placed counts left ready → contains nat_cmp ready row ≡ true
    → ((o : ℕ) → contains nat_cmp ready_mid o ≡ cond (nat_eq row o) false (contains nat_cmp ready o))
    → list ≡ list_at waiting row → then_placed ≡ placed ++ row ∷ [] → length counts_then ≡ length counts
    → ((o : ℕ) → get_or counts_then o 0 + times o list ≡ get_or counts o 0)
    → ((o : ℕ) → contains nat_cmp ready_then o ≡ (contains nat_cmp ready_mid o || (nat_lt 0 (times o list) && nat_eq (get_or counts_then o 0) 0)))
    → Stands lists then_placed counts_then (set left row false) ready_then
placed_then lists waiting placed then_placed counts counts_then left ready ready_mid ready_then row list rows mirror stands here others is pushed size sums more =
    subst (λ p. Stands lists p counts_then (set left row false) ready_then) (sym pushed)
    (stands_then lists waiting placed counts counts_then left ready ready_then row rows mirror stands here (record {
      size = size;
      sums = λ o. ap (λ xs. get_or counts_then o 0 + times o xs) (sym is) ∙ sums o;
      readies = λ o.
          more o
          ∙ ap (λ b. b || (nat_lt 0 (times o list) && nat_eq (get_or counts_then o 0) 0)) (others o)
          ∙ ap (λ xs. cond (nat_eq row o) false (contains nat_cmp ready o) || (nat_lt 0 (times o xs) && nat_eq (get_or counts_then o 0) 0)) is;
    }))

append_nothing : (xs : List ℕ) → xs ++ [] ≡ xs
append_nothing [] = refl
append_nothing (x ∷ xs) = ap (λ ys. x ∷ ys) (append_nothing xs)

pub nothing_more : (placed : List ℕ) (o : Option ℕ) → o ≡ None → placed ≡ placed ++ option_to_list o
nothing_more placed o e = sym (append_nothing placed) ∙ ap (λ p. placed ++ option_to_list p) (sym e)
