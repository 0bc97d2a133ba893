-- The numbers of items are those of the last of each table and key, and rise by these.
use Rattle.std.proofs.Common.{◌≡◌, inl, inr, ℕ, suc, ◌+◌, ◌<◌, Bool, true, false, cond, T, List, [], ◌∷◌, ◌++◌, length, Some, refl, sym, ap, ◌∙◌, subst, arith, append_assoc, eqb, ◌||◌}
use Rattle.std.proofs.lemmas.Bool.{cases_lt, eq-eqb, eqb-true}
use Rattle.std.specs.declared.cmp.Ordering.TheVariants.{Less}
use Rattle.std.specs.Ordering.{is_eq, is_lt}
use Rattle.std.specs.Cmp.{tied_itself}
use Rattle.std.specs.List.{AllByRecursion}
use Rattle.std.specs.Map.{lookup, values_of}
use Rattle.std.specs.BTreeMap.{insert_entry, is_at}
use Rattle.std.specs.FinMap.Entries.{below_all, is_sorted}
use Rattle.table_laws.proofs.Entries.{all_map}
use Rattle.table_laws.proofs.SameValues.{is_equal}
use Rattle.session_laws.specs.Plans.AsSets.{AreByPlace, IsLastAt, place_at}
use Rattle.session_laws.proofs.Plans.Lookups.{all_found, first, less, lookup_insert, second}
use Rattle.flush_order.proofs.IndexSteps.{place_total}
use Rattle.session_laws.proofs.Plans.Newness.{place_same, same_is}
use Rattle.session_laws.proofs.Plans.Numbers.{less_equal, entered_sorted, latest_have, place_is, values_all}
use Rattle.session_laws.proofs.Plans.Facts.{none_some, true_false, or_cases}
use Rattle.base_core.proofs.Tests.{or_then}
use Rattle.row_order.specs.Places.{is_among}
use Rattle.flush_order.specs.Sorted.{Place, entries_with_places, place_cmp, same_place, sorted_numbers}

abbrev no_place : Place
no_place = (record { 0 = 0 }, [])

same_number : (x y : ℕ) → Some x ≡ Some y → x ≡ y
same_number x y e = cc

module _ (places : List Place) where
  -- the number is of an item with this table and key, the last of the first so many
  record Latest (most : ℕ) (q : Place) (n : ℕ) : Type 0 where
    at : place_at places n ≡ q
    below : n < most
    last : (k : ℕ) → n < k → k < most → place_at places k ≡ q → ⊥

  abbrev Found : ℕ → List (Place × ℕ) → Type 0
  Found most entries = (q : Place) (n : ℕ) → lookup (is_at (place_cmp q)) entries ≡ Some n → Latest most q n

  -- ---- entries that are put in

  new_here : (number : ℕ) (q : Place) (n : ℕ) → q ≡ place_at places number → number ≡ n → Latest (suc number) q n
  new_here number q n same is = record {
    at = ap (place_at places) (sym is) ∙ sym same;
    below = omega (arith, is);
    last = λ k more less here. omega (arith, is, more, less);
  }

  older : (number : ℕ) (q : Place) (n : ℕ) → (place_at places number ≡ q → ⊥) → Latest number q n → Latest (suc number) q n
  older number q n apart was = record {
    at = was.at;
    below = let h = was.below in omega (arith, h);
    last = λ k more less here.
        elim (cases_lt k number) [
          | inl under ↦ was.last k more under here
          | inr over ↦ let is : k ≡ number = omega (arith, over, less) in apart (ap (place_at places) (sym is) ∙ here)
        ];
  }

  latest_step : (entries : List (Place × ℕ)) (number : ℕ) (q : Place) (n : ℕ) (b : Bool) → is_eq (place_cmp q (place_at places number)) ≡ b → Found number entries → cond b (Some number) (lookup (is_at (place_cmp q)) entries) ≡ Some n → Latest (suc number) q n
  latest_step entries number q n true e before found =
      new_here number q n (place_is q (place_at places number) (is_equal (place_cmp q (place_at places number)) e)) (same_number number n found)
  latest_step entries number q n false e before found =
      older number q n (λ same. true_false (sym (ap is_eq (tied_itself place_total q)) ∙ ap (λ p. is_eq (place_cmp q p)) (sym same) ∙ e)) (before q n found)

  latest_put : (entries : List (Place × ℕ)) (number : ℕ) (p : Place) → place_at places number ≡ p → Found number entries → Found (suc number) (insert_entry place_cmp entries p number)
  latest_put entries number p at before q n found =
      latest_step entries number q n (is_eq (place_cmp q (place_at places number))) refl before
      (ap (λ x. cond (is_eq (place_cmp q x)) (Some number) (lookup (is_at (place_cmp q)) entries)) at
      ∙ sym (lookup_insert place_cmp place_total entries p number q) ∙ found)

  latest_all : (entries : List (Place × ℕ)) (number : ℕ) (rest : List Place) → ((i : ℕ) → i < length rest → place_at places (number + i) ≡ place_at rest i) → Found number entries → Found (number + length rest) (entries_with_places entries number rest)
  latest_all entries number [] at before = subst (λ most. Found most entries) (plus_zero number) before
    where
      plus_zero : (n : ℕ) → n ≡ n + 0
      plus_zero n = omega arith
  latest_all entries number (p ∷ rest) at before =
      subst (λ most. Found most (entries_with_places (insert_entry place_cmp entries p number) (suc number) rest)) (plus_suc number (length rest))
      (latest_all (insert_entry place_cmp entries p number) (suc number) rest
      (λ i h. ap (place_at places) (plus_suc number i) ∙ at (suc i) (omega arith))
      (latest_put entries number p (ap (place_at places) (plus_zero number) ∙ at 0 (omega arith)) before))
    where
      plus_zero : (n : ℕ) → n ≡ n + 0
      plus_zero n = omega arith

      plus_suc : (n k : ℕ) → suc n + k ≡ n + suc k
      plus_suc n k = omega arith

  -- ---- the numbers

  abbrev all_entries : List (Place × ℕ)
  all_entries = entries_with_places [] 0 places

  sorted : T (is_sorted place_cmp all_entries)
  sorted = entered_sorted [] 0 places tt

  found : Found (length places) all_entries
  found = subst (λ most. Found most all_entries) (zero_plus (length places)) (latest_all [] 0 places (λ i h. ap (place_at places) (zero_plus i)) (λ q n none. absurd (none_some n none)))
    where
      zero_plus : (k : ℕ) → 0 + k ≡ k
      zero_plus k = omega arith

  all_latest : AllByRecursion (λ e. Latest (length places) e.0 e.1) all_entries
  all_latest = all_found place_cmp place_total place_is (λ e. Latest (length places) e.0 e.1) all_entries sorted found

  no_later : (n later : ℕ) (q : Place) (b : Bool) → same_place (place_at places later) (place_at places n) ≡ b → Latest (length places) q n → n < later → later < length places → b ≡ false
  no_later n later q true e latest h k = absurd (latest.last later h k (same_is (place_at places later) (place_at places n) e ∙ latest.at))
  no_later n later q false e latest h k = refl

  is_last : (e : Place × ℕ) → Latest (length places) e.0 e.1 → IsLastAt places e.1
  is_last e latest = (latest.below, λ later h k. no_later e.1 later e.0 (same_place (place_at places later) (place_at places e.1)) refl latest h k)

  -- ---- they rise

  nil_cons : (ahead : List ℕ) (x : ℕ) (rest : List ℕ) → [] ≡ ahead ++ x ∷ rest → ⊥
  nil_cons [] x rest e = cc
  nil_cons (a ∷ ahead) x rest e = cc

  one_two : (y : ℕ) (ahead : List ℕ) (one other : ℕ) (rest : List ℕ) → y ∷ [] ≡ ahead ++ one ∷ other ∷ rest → ⊥
  one_two y [] one other rest e = cc
  one_two y (a ∷ ahead) one other rest e = nil_cons ahead one (other ∷ rest) (tail y a [] (ahead ++ one ∷ other ∷ rest) e)
    where
      tail : (x z : ℕ) (xs zs : List ℕ) → x ∷ xs ≡ z ∷ zs → xs ≡ zs
      tail x z xs zs f = cc

  head_is : (x z : ℕ) (xs zs : List ℕ) → x ∷ xs ≡ z ∷ zs → x ≡ z
  head_is x z xs zs f = cc

  tail_is : (x z : ℕ) (xs zs : List ℕ) → x ∷ xs ≡ z ∷ zs → xs ≡ zs
  tail_is x z xs zs f = cc

  rising_at : (entries : List (Place × ℕ)) → T (is_sorted place_cmp entries) → AllByRecursion (λ e. Latest (length places) e.0 e.1) entries → (ahead rest : List ℕ) (one other : ℕ) → values_of entries ≡ ahead ++ one ∷ other ∷ rest → place_cmp (place_at places one) (place_at places other) ≡ Less
  rising_at [] up all ahead rest one other e = absurd (nil_cons ahead one (other ∷ rest) e)
  rising_at (f ∷ []) up all ahead rest one other e = absurd (one_two f.1 ahead one other rest e)
  rising_at (f ∷ g ∷ entries) up all [] rest one other e =
      let a : f.1 ≡ one = head_is f.1 one (g.1 ∷ values_of entries) (other ∷ rest) e in
      let b : g.1 ≡ other = head_is g.1 other (values_of entries) rest (tail_is f.1 one (g.1 ∷ values_of entries) (other ∷ rest) e) in
      (λ i. place_cmp (place_at places (sym a i)) (place_at places (sym b i)))
      ∙ (λ i. place_cmp (all.0.at i) (all.1.0.at i))
      ∙ less (place_cmp f.0 g.0) (first (is_lt (place_cmp f.0 g.0)) (below_all place_cmp f.0 entries) (first (below_all place_cmp f.0 (g ∷ entries)) (is_sorted place_cmp (g ∷ entries)) up))
  rising_at (f ∷ g ∷ entries) up all (a ∷ ahead) rest one other e =
      rising_at (g ∷ entries) (second (below_all place_cmp f.0 (g ∷ entries)) (is_sorted place_cmp (g ∷ entries)) up) all.1 ahead rest one other (tail_is f.1 a (g.1 ∷ values_of entries) (ahead ++ one ∷ other ∷ rest) e)

  last_among : (n : ℕ) → IsLastAt places n → is_among (sorted_numbers places) n ≡ true
  last_among n is =
      latest_have places no_place n is.0
      (λ later h k same. true_false (sym (place_same (place_at places later) (place_at places n) (sym same)) ∙ is.1 later h k))

  pub numbers_are : AreByPlace places (sorted_numbers places)
  unfolding sorted_numbers
  numbers_are = record {
    each = λ n among. values_all (IsLastAt places) all_entries n (all_map (λ e. Latest (length places) e.0 e.1) (λ e. IsLastAt places e.1) is_last all_entries all_latest) among;
    all = last_among;
    rising = rising_at all_entries sorted all_latest;
  }

  -- ---- no other list is so

  abbrev Comes : ℕ → ℕ → Type 0
  Comes one other = place_cmp (place_at places one) (place_at places other) ≡ Less

  abbrev Rises : List ℕ → Type 0
  Rises [] = Unit {0}
  Rises (one ∷ []) = Unit {0}
  Rises (one ∷ other ∷ rest) = Comes one other × Rises (other ∷ rest)

  rises_from : (numbers : List ℕ) → AreByPlace places numbers → (ahead after : List ℕ) → numbers ≡ ahead ++ after → Rises after
  rises_from numbers are ahead [] e = tt
  rises_from numbers are ahead (one ∷ []) e = tt
  rises_from numbers are ahead (one ∷ other ∷ rest) e = (
    are.rising ahead rest one other e,
    rises_from numbers are (ahead ++ one ∷ []) (other ∷ rest) (e ∙ sym (append_assoc ahead (one ∷ []) (other ∷ rest))),
  )

  rises_rest : (one : ℕ) (rest : List ℕ) → Rises (one ∷ rest) → Rises rest
  rises_rest one [] r = tt
  rises_rest one (other ∷ rest) r = r.1

  not_itself : (one : ℕ) → Comes one one → ⊥
  not_itself one e = less_equal (sym e ∙ tied_itself place_total (place_at places one))

  below : (one : ℕ) (rest : List ℕ) → Rises (one ∷ rest) → (n : ℕ) → is_among rest n ≡ true → Comes one n
  below one [] r n among = absurd (true_false (sym among))
  below one (other ∷ rest) r n among =
      elim (or_cases (eqb n other) (is_among rest n) among) [
        | inl here ↦ subst (Comes one) (sym (eqb-true n other here)) r.0
        | inr more ↦ place_total.trans (place_at places one) (place_at places other) (place_at places n) r.0 (below other rest r.1 n more)
      ]

  abbrev Within : List ℕ → List ℕ → Type 0
  Within xs ys = (n : ℕ) → is_among xs n ≡ true → is_among ys n ≡ true

  here : (x : ℕ) (xs : List ℕ) → is_among (x ∷ xs) x ≡ true
  here x xs = ap (λ b. b || is_among xs x) (eq-eqb x x refl)

  heads_same : (x y : ℕ) (xs ys : List ℕ) → Rises (x ∷ xs) → Rises (y ∷ ys) → Within (x ∷ xs) (y ∷ ys) → Within (y ∷ ys) (x ∷ xs) → x ≡ y
  heads_same x y xs ys r s f g =
      elim (or_cases (eqb x y) (is_among ys x) (f x (here x xs))) [
        | inl same ↦ eqb-true x y same
        | inr more ↦ elim (or_cases (eqb y x) (is_among xs y) (g y (here y ys))) [
          | inl same ↦ sym (eqb-true y x same)
          | inr again ↦ absurd (not_itself x (place_total.trans (place_at places x) (place_at places y) (place_at places x) (below x xs r y again) (below y ys s x more)))
        ]
      ]

  rest_within : (x y : ℕ) (xs ys : List ℕ) → x ≡ y → Rises (x ∷ xs) → Within (x ∷ xs) (y ∷ ys) → Within xs ys
  rest_within x y xs ys same r f n among =
      elim (or_cases (eqb n y) (is_among ys n) (f n (or_then (eqb n x) (is_among xs n) among))) [
        | inl first_one ↦ absurd (not_itself x (subst (Comes x) (eqb-true n y first_one ∙ sym same) (below x xs r n among)))
        | inr more ↦ more
      ]

  same_rising : (xs ys : List ℕ) → Rises xs → Rises ys → Within xs ys → Within ys xs → xs ≡ ys
  same_rising [] [] r s f g = refl
  same_rising [] (y ∷ ys) r s f g = absurd (true_false (sym (g y (here y ys))))
  same_rising (x ∷ xs) [] r s f g = absurd (true_false (sym (f x (here x xs))))
  same_rising (x ∷ xs) (y ∷ ys) r s f g =
      let same : x ≡ y = heads_same x y xs ys r s f g in
      λ i. same i ∷ same_rising xs ys (rises_rest x xs r) (rises_rest y ys s) (rest_within x y xs ys same r f) (rest_within y x ys xs (sym same) s g) i

  pub only_numbers : (numbers : List ℕ) → AreByPlace places numbers → numbers ≡ sorted_numbers places
  only_numbers numbers are =
      same_rising numbers (sorted_numbers places) (rises_from numbers are [] numbers refl) (rises_from (sorted_numbers places) numbers_are [] (sorted_numbers places) refl)
      (λ n among. numbers_are.all n (are.each n among)) (λ n among. are.all n (numbers_are.each n among))
