-- `like` does not mind the case of ASCII letters.
use Rattle.std.proofs.Common.{◌≡◌, ℕ, zero, suc, ◌+◌, ◌-◌, ◌*◌, ◌<◌, List, [], ◌∷◌, map, refl, ap, arith}
use Rattle.std.proofs.lemmas.Grind.{common_steps}
use Rattle.std.specs.Str.{chars, chars_after, continuation_len, lead_bits}
use Rattle.std.specs.Char.{to_ascii_lowercase}
use Rattle.sql_semantics.specs.Texts.{like, caseless}

abbrev low : ℕ → ℕ
low = to_ascii_lowercase

low_again : (b : ℕ) → low (low b) ≡ low b
low_again b = grind (arith, common_steps)

same_length : (b : ℕ) → continuation_len (low b) ≡ continuation_len b
same_length b = grind (arith, common_steps)

same_lead : (b : ℕ) → low (lead_bits (low b)) ≡ low (lead_bits b)
same_lead b = grind (arith, common_steps)

same_long_lead : (b : ℕ) → 0 < continuation_len b → lead_bits (low b) ≡ lead_bits b
same_long_lead b h = grind (arith, common_steps)

same_rest : (b : ℕ) → low b - 128 ≡ b - 128
same_rest b = grind (arith, common_steps)

chars_low : (bs : List ℕ) (n c d : ℕ) → low c ≡ low d → (0 < n → c ≡ d) → map low (chars_after n c (map low bs)) ≡ map low (chars_after n d bs)
chars_low [] zero c d e h = ap (λ x. x ∷ []) e
chars_low [] (suc n) c d e h = refl
chars_low (b ∷ bs) zero c d e h =
    rw (e, same_length b) (ap (λ cs. low d ∷ cs) (chars_low bs (continuation_len b) (lead_bits (low b)) (lead_bits b) (same_lead b) (same_long_lead b)))
chars_low (b ∷ bs) (suc n) c d e h =
    let same : c ≡ d = h (omega arith) in
    let next : c * 64 + (low b - 128) ≡ d * 64 + (b - 128) = rw (same, same_rest b) refl in
    chars_low bs n (c * 64 + (low b - 128)) (d * 64 + (b - 128)) (ap low next) (λ l. next)

caseless_low : (t : List ℕ) → caseless (map low t) ≡ caseless t
unfolding chars
caseless_low [] = refl
caseless_low (b ∷ bs) = rw (same_length b) (chars_low bs (continuation_len b) (lead_bits (low b)) (lead_bits b) (same_lead b) (same_long_lead b))

pub like_low : (t u : List ℕ) → like (map low t) (map low u) ≡ like t u
unfolding like
like_low t u = rw (caseless_low t, caseless_low u) refl
