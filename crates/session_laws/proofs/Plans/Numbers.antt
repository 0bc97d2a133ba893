-- The numbers of rows that are sorted by table and key: each once.
use Rattle.std.proofs.Common.{◌≡◌, inl, inr, ℕ, zero, suc, ◌+◌, ◌<◌, Bool, true, false, cond, ◌||◌, eqb, T, List, [], ◌∷◌, length, get_or, Option, Some, refl, sym, ap, ◌∙◌, subst, arith}
use Rattle.std.proofs.lemmas.Bool.{eq-eqb, eqb-true}
use Rattle.std.specs.declared.cmp.Ordering.TheVariants.{Less, Equal}
use Rattle.std.specs.Ordering.{is_eq, is_lt}
use Rattle.std.specs.Cmp.{tied_itself}
use Rattle.std.specs.List.{AllByRecursion, IsDistinct, list_any}
use Rattle.std.specs.Map.{lookup, values_of}
use Rattle.std.specs.BTreeMap.{insert_entry, is_at}
use Rattle.std.specs.FinMap.Entries.{below_all, is_sorted}
use Rattle.base_core.specs.Order.{values_cmp}
use Rattle.schema_core.specs.Declaration.{some_two}
use Rattle.schema_core.specs.Tables.{table_cmp}
use Rattle.table_laws.proofs.Entries.{all_insert}
use Rattle.table_laws.proofs.SameValues.{same_key, same_table, both_equal, is_equal}
use Rattle.session_laws.proofs.Plans.Lookups.{lookup_insert, sorted_insert, less, first, second}
use Rattle.session_laws.proofs.Plans.Newness.{place_same}
use Rattle.session_laws.proofs.Plans.Facts.{none_some, or_cases, or_false, true_false, apart_false}
use Rattle.base_core.proofs.Tests.{or_then}
use Rattle.flush_order.proofs.IndexSteps.{place_total}
use Rattle.row_order.specs.Places.{is_among}
use Rattle.flush_order.specs.Sorted.{Place, entries_with_places, place_cmp, same_place, sorted_numbers}

pub place_is : (p q : Place) → place_cmp p q ≡ Equal → p ≡ q
place_is p q e =
    let both = both_equal (table_cmp p.0 q.0) (values_cmp p.1 q.1) e in
    λ i. (same_table p.0 q.0 both.0 i, same_key p.1 q.1 both.1 i)

other_place : (b : Bool) (p q : Place) → is_eq (place_cmp p q) ≡ b → (p ≡ q → ⊥) → b ≡ false
other_place true p q e apart = absurd (apart (place_is p q (is_equal (place_cmp p q) e)))
other_place false p q e apart = refl

Entries : Type 0
Entries = List (Place × ℕ)

-- what holds of each place and number holds of each entry
entered_all : (P : Place × ℕ → Type 0) (entries : List (Place × ℕ)) (number : ℕ) (places : List Place) (d : Place) → AllByRecursion P entries → ((k : ℕ) → k < length places → P (get_or places k d, number + k)) → AllByRecursion P (entries_with_places entries number places)
entered_all P entries number [] d all each = all
entered_all P entries number (p ∷ ps) d all each =
    entered_all P (insert_entry place_cmp entries p number) (suc number) ps d
    (all_insert place_cmp place_is P entries p number all (subst (λ n. P (p, n)) (plus_zero number) (each 0 (omega arith))))
    (λ k h. subst (λ n. P (get_or ps k d, n)) (plus_suc number k) (each (suc k) (omega arith)))
  where
    plus_zero : (n : ℕ) → n + 0 ≡ n
    plus_zero n = omega arith

    plus_suc : (n k : ℕ) → n + suc k ≡ suc n + k
    plus_suc n k = omega arith

pub entered_sorted : (entries : List (Place × ℕ)) (number : ℕ) (places : List Place) → T (is_sorted place_cmp entries) → T (is_sorted place_cmp (entries_with_places entries number places))
entered_sorted entries number [] sorted = sorted
entered_sorted entries number (p ∷ ps) sorted = entered_sorted (insert_entry place_cmp entries p number) (suc number) ps (sorted_insert place_cmp place_total entries p number sorted)

entered_keeps : (entries : List (Place × ℕ)) (number : ℕ) (places : List Place) (q d : Place) (n : ℕ) → lookup (is_at (place_cmp q)) entries ≡ Some n → ((k : ℕ) → k < length places → q ≡ get_or places k d → ⊥) → lookup (is_at (place_cmp q)) (entries_with_places entries number places) ≡ Some n
entered_keeps entries number [] q d n e apart = e
entered_keeps entries number (p ∷ ps) q d n e apart =
    entered_keeps (insert_entry place_cmp entries p number) (suc number) ps q d n
    (lookup_insert place_cmp place_total entries p number q
    ∙ ap (λ b. cond b (Some number) (lookup (is_at (place_cmp q)) entries)) (other_place (is_eq (place_cmp q p)) q p refl (apart 0 (omega arith)))
    ∙ e)
    (λ k h. apart (suc k) (omega arith))

abbrev pub AreOther : List Place → Place → Type 0
AreOther places d = (i j : ℕ) → i < length places → j < length places → get_or places i d ≡ get_or places j d → i ≡ j

-- no later place is that of the number
abbrev IsLatest : List Place → Place → ℕ → Type 0
IsLatest places d k = (j : ℕ) → k < j → j < length places → get_or places k d ≡ get_or places j d → ⊥

entered_has : (entries : List (Place × ℕ)) (number : ℕ) (places : List Place) (d : Place) (k : ℕ) → k < length places → IsLatest places d k → lookup (is_at (place_cmp (get_or places k d))) (entries_with_places entries number places) ≡ Some (number + k)
entered_has entries number [] d k h latest = absurd (omega arith)
entered_has entries number (p ∷ ps) d zero h latest =
    entered_keeps (insert_entry place_cmp entries p number) (suc number) ps p d (number + 0)
    (lookup_insert place_cmp place_total entries p number p
    ∙ ap (λ o. cond (is_eq o) (Some number) (lookup (is_at (place_cmp p)) entries)) (tied_itself place_total p)
    ∙ ap Some (plus_zero number))
    (λ k less same. latest (suc k) (omega arith) (omega arith) same)
  where
    plus_zero : (n : ℕ) → n ≡ n + 0
    plus_zero n = omega arith
entered_has entries number (p ∷ ps) d (suc k) h latest =
    entered_has (insert_entry place_cmp entries p number) (suc number) ps d k (omega arith) (λ j less more same. latest (suc j) (omega arith) (omega arith) same)
    ∙ ap Some (plus_suc number k)
  where
    plus_suc : (n k : ℕ) → suc n + k ≡ n + suc k
    plus_suc n k = omega arith

-- ---- values

value_step : (b : Bool) (v n : ℕ) (rest : Option ℕ) (vs : List ℕ) → (rest ≡ Some n → is_among vs n ≡ true) → cond b (Some v) rest ≡ Some n → (eqb n v || is_among vs n) ≡ true
value_step true v n rest vs more e = ap (λ b. b || is_among vs n) (eq-eqb n v (sym (some_same v n e)))
  where
    some_same : (x y : ℕ) → Some x ≡ Some y → x ≡ y
    some_same x y f = cc
value_step false v n rest vs more e = or_then (eqb n v) (is_among vs n) (more e)

value_among : (q : Place) (es : List (Place × ℕ)) (n : ℕ) → lookup (is_at (place_cmp q)) es ≡ Some n → is_among (values_of es) n ≡ true
value_among q [] n e = absurd (none_some n e)
value_among q (e ∷ es) n found = value_step (is_eq (place_cmp q e.0)) e.1 n (lookup (is_at (place_cmp q)) es) (values_of es) (value_among q es n) found

pub values_all : (P : ℕ → Type 0) (es : List (Place × ℕ)) (n : ℕ) → AllByRecursion (λ e. P e.1) es → is_among (values_of es) n ≡ true → P n
values_all P [] n all among = absurd (true_false (sym among))
values_all P (e ∷ es) n all among =
    elim (or_cases (eqb n e.1) (is_among (values_of es) n) among) [
      | inl here ↦ subst P (sym (eqb-true n e.1 here)) all.0
      | inr more ↦ values_all P es n all.1 more
    ]

pub less_equal : Less ≡ Equal → ⊥
less_equal e = cc

values_apart : (at : ℕ → Place) (e : Place × ℕ) (es : List (Place × ℕ)) → e.0 ≡ at e.1 → AllByRecursion (λ f. f.0 ≡ at f.1) es → T (below_all place_cmp e.0 es) → AllByRecursion (λ n. eqb e.1 n ≡ false) (values_of es)
values_apart at e [] here all below = tt
values_apart at e (f ∷ es) here all below = (
  apart_false e.1 f.1 (eqb e.1 f.1) refl (λ same. less_equal (sym (less (place_cmp e.0 f.0) (first (is_lt (place_cmp e.0 f.0)) (below_all place_cmp e.0 es) below)) ∙ ap (λ q. place_cmp q f.0) (here ∙ ap at same ∙ sym all.0) ∙ tied_itself place_total f.0)),
  values_apart at e es here all.1 (second (is_lt (place_cmp e.0 f.0)) (below_all place_cmp e.0 es) below),
)

values_distinct : (at : ℕ → Place) (es : List (Place × ℕ)) → AllByRecursion (λ e. e.0 ≡ at e.1) es → T (is_sorted place_cmp es) → IsDistinct eqb (values_of es)
unfolding IsDistinct
values_distinct at [] all sorted = tt
values_distinct at (e ∷ es) all sorted = (
  values_apart at e es all.0 all.1 (first (below_all place_cmp e.0 es) (is_sorted place_cmp es) sorted),
  values_distinct at es all.1 (second (below_all place_cmp e.0 es) (is_sorted place_cmp es) sorted),
)

-- ---- the numbers

zero_plus : (k : ℕ) → 0 + k ≡ k
zero_plus k = omega arith

pub latest_have : (places : List Place) (d : Place) (k : ℕ) → k < length places → IsLatest places d k → is_among (sorted_numbers places) k ≡ true
unfolding sorted_numbers
latest_have places d k h latest = value_among (get_or places k d) (entries_with_places [] 0 places) k (entered_has [] 0 places d k h latest ∙ ap Some (zero_plus k))

pub numbers_have : (places : List Place) (d : Place) (k : ℕ) → k < length places → AreOther places d → is_among (sorted_numbers places) k ≡ true
numbers_have places d k h apart = latest_have places d k h (λ j less more same. let e = apart k j h more same in omega (arith, e, less))

pub numbers_within : (places : List Place) (d : Place) (n : ℕ) → is_among (sorted_numbers places) n ≡ true → n < length places
unfolding sorted_numbers
numbers_within places d n among = values_all (λ k. k < length places) (entries_with_places [] 0 places) n (entered_all (λ e. e.1 < length places) [] 0 places d tt (λ k h. omega arith)) among

pub numbers_distinct : (places : List Place) (d : Place) → IsDistinct eqb (sorted_numbers places)
unfolding sorted_numbers
numbers_distinct places d =
    values_distinct (λ n. get_or places n d) (entries_with_places [] 0 places)
    (entered_all (λ e. e.0 ≡ get_or places e.1 d) [] 0 places d tt (λ k h. ap (λ n. get_or places n d) (sym (zero_plus k))))
    (entered_sorted [] 0 places tt)

-- ---- items by their number

two_out : {A : Type 0} (place : A → Place) (xs : List A) (x : A) (j : ℕ) (d : A) → list_any (λ later. same_place (place later) (place x)) xs ≡ false → j < length xs → place (get_or xs j d) ≡ place x → ⊥
two_out place [] x j d none h same = omega arith
two_out place (y ∷ ys) x zero d none h same = true_false (sym (place_same (place y) (place x) same) ∙ (or_false (same_place (place y) (place x)) (list_any (λ later. same_place (place later) (place x)) ys) none).0)
two_out place (y ∷ ys) x (suc j) d none h same = two_out place ys x j d (or_false (same_place (place y) (place x)) (list_any (λ later. same_place (place later) (place x)) ys) none).1 (omega arith) same

pub two_at : {A : Type 0} (place : A → Place) (xs : List A) (d : A) (i j : ℕ) → some_two (λ one other. same_place (place one) (place other)) xs ≡ false → i < length xs → j < length xs → place (get_or xs i d) ≡ place (get_or xs j d) → i ≡ j
two_at place [] d i j none h k same = absurd (omega arith)
two_at place (x ∷ xs) d zero zero none h k same = refl
two_at place (x ∷ xs) d zero (suc j) none h k same = absurd (two_out place xs x j d (or_false (list_any (λ later. same_place (place later) (place x)) xs) (some_two (λ one other. same_place (place one) (place other)) xs) none).0 (omega arith) (sym same))
two_at place (x ∷ xs) d (suc i) zero none h k same = absurd (two_out place xs x i d (or_false (list_any (λ later. same_place (place later) (place x)) xs) (some_two (λ one other. same_place (place one) (place other)) xs) none).0 (omega arith) same)
two_at place (x ∷ xs) d (suc i) (suc j) none h k same = ap suc (two_at place xs d i j (or_false (list_any (λ later. same_place (place later) (place x)) xs) (some_two (λ one other. same_place (place one) (place other)) xs) none).1 (omega arith) (omega arith) same)
