-- Digits that are read with a greatest value, and bytes that are known to be UTF-8.
use Rattle.std.proofs.Common.{◌<◌, suc, drop, length, get_or, add-one, drop-cons, ◌≡◌, ℕ, ◌+◌, ◌-◌, ◌*◌, min, List, [], ◌∷◌, Bool, true, false, refl, ap, ◌∙◌, sym, arith}
use Rattle.std.specs.Str.{IsUtf8, is_utf8}
use Rattle.std.proofs.lemmas.Str.{IsUtf8-from_is_utf8, is_utf8-from_IsUtf8}
use Rattle.script_lex.specs.Content.{digits_value}

cut_twice : (a d m : ℕ) → min (min a m * 10 + d) m ≡ min (a * 10 + d) m
cut_twice a d m = omega arith

cut_first : (m a : ℕ) (ds : List ℕ) → min (digits_value (min a m) ds) m ≡ min (digits_value a ds) m
cut_first m a [] = omega arith
cut_first m a (d ∷ ds) =
    sym (cut_first m (min a m * 10 + (d - 48)) ds) ∙ ap (λ k. min (digits_value k ds) m) (cut_twice a (d - 48) m) ∙ cut_first m (a * 10 + (d - 48)) ds

-- where a digit is added with a greatest value, the rest of the digits give what they give without it, cut
pub capped_step : (m i n k : ℕ) (ds : List ℕ) → i < length ds → k ≡ min (n * 10 + (get_or ds i 0 - 48)) m
    → min (digits_value k (drop (i + 1) ds)) m ≡ min (digits_value n (drop i ds)) m
capped_step m i n k ds h e = rw (e, add-one, drop-cons ds i 0 h) (cut_first m (n * 10 + (get_or ds i 0 - 48)) (drop (suc i) ds))

pub utf8_known : (bs : List ℕ) → is_utf8 bs ≡ true → IsUtf8 bs
utf8_known bs h = IsUtf8-from_is_utf8 bs h

pub utf8_tested : (bs : List ℕ) → IsUtf8 bs → true ≡ is_utf8 bs
utf8_tested bs h = sym (is_utf8-from_IsUtf8 bs h)

by_test : (b : Bool) (bs : List ℕ) → is_utf8 bs ≡ b → (IsUtf8 bs → ⊥) → false ≡ b
by_test true bs e h = absurd (h (IsUtf8-from_is_utf8 bs e))
by_test false bs e h = refl

pub utf8_refused : (bs : List ℕ) → (IsUtf8 bs → ⊥) → false ≡ is_utf8 bs
utf8_refused bs h = by_test (is_utf8 bs) bs refl h
