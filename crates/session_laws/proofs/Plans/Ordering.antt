-- Each place of the order waits for none from it on.
use Rattle.std.proofs.Common.{◌≡◌, inl, inr, ℕ, zero, suc, ◌+◌, ◌<◌, ◌≤◌, Bool, false, not, ◌&&◌, List, Some, sym, ap, ◌∙◌, subst, arith}
use Rattle.std.proofs.lemmas.Bool.{cases_lt}
use Rattle.std.specs.List.{list_any, range_with_len}
use Rattle.session_laws.proofs.Plans.Orders.{find_passes}
use Rattle.table_laws.proofs.RowFits.{and_true}
use Rattle.session_laws.proofs.Plans.Facts.{not_true, or_false}
use Rattle.row_order.specs.Places.{holds_up, is_among, is_ready, next_place}

any_at : (p : ℕ → Bool) (a n x : ℕ) → list_any p (range_with_len a n) ≡ false → a ≤ x → x < a + n → p x ≡ false
any_at p a zero x none h k = absurd (omega arith)
any_at p a (suc n) x none h k =
    let both = or_false (p a) (list_any p (range_with_len (a + 1) n)) none in
    elim (cases_lt a x) [
      | inl later ↦ any_at p (a + 1) n x both.1 (omega arith) (omega arith)
      | inr here ↦ let same : a ≡ x = omega arith in subst (λ z. p z ≡ false) same both.0
    ]

module _ (waits : ℕ → ℕ → Bool) (size : ℕ) where
  -- what is placed next waits for no row that is not placed yet
  pub waits_not : (placed : List ℕ) (row other : ℕ) → next_place waits size placed ≡ Some row → other < size → is_among placed other ≡ false → waits row other ≡ false
  unfolding next_place
  waits_not placed row other e inside out =
      let ready = and_true (not (is_among placed row)) (not (list_any (holds_up waits placed row) (range_with_len 0 size))) (find_passes (is_ready waits size placed) (range_with_len 0 size) row e) in
      let none : (not (is_among placed other) && waits row other) ≡ false = any_at (holds_up waits placed row) 0 size other (not_true (list_any (holds_up waits placed row) (range_with_len 0 size)) ready.1) (omega arith) (omega arith) in
      sym (ap (λ b. not b && waits row other) out) ∙ none
