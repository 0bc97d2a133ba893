-- Quotes doubled one at a time.
use Rattle.std.proofs.Common.{◌≡◌, ◌≢◌, ℕ, suc, ◌<◌, cond, List, [], ◌∷◌, ◌++◌, length, get_or, refl, sym, ap, ◌∙◌, append_assoc, arith}
use Rattle.std.proofs.lemmas.Bool.{ne_eqb}
use Rattle.std.proofs.lemmas.Grind.{flat_map-append}
use Rattle.value_texts.specs.Values.{with_quotes_doubled, doubled_byte}

-- a text without a quote stays
pub doubled_plain : (xs : List ℕ) → ((i : ℕ) → i < length xs → get_or xs i 0 ≢ 39) → with_quotes_doubled xs ≡ xs
doubled_plain [] plain = refl
doubled_plain (x ∷ xs) plain =
    let other : (i : ℕ) → i < length xs → get_or xs i 0 ≢ 39 = λ i h. plain (suc i) (omega arith) in
    ap (λ b. cond b (39 ∷ 39 ∷ []) (x ∷ []) ++ with_quotes_doubled xs) (ne_eqb x 39 (plain 0 (omega arith))) ∙ ap (λ r. x ∷ r) (doubled_plain xs other)

-- the front up to a quote, the quote doubled, and the rest
pub doubled_step : (done front back rest : List ℕ) → rest ≡ front ++ 39 ∷ back → ((i : ℕ) → i < length front → get_or front i 0 ≢ 39) → (done ++ (front ++ 39 ∷ 39 ∷ [])) ++ with_quotes_doubled back ≡ done ++ with_quotes_doubled rest
doubled_step done front back rest parts plain =
    append_assoc done (front ++ 39 ∷ 39 ∷ []) (with_quotes_doubled back)
    ∙ ap (λ r. done ++ r) (append_assoc front (39 ∷ 39 ∷ []) (with_quotes_doubled back) ∙ ap (λ r. r ++ 39 ∷ 39 ∷ with_quotes_doubled back) (sym (doubled_plain front plain)) ∙ sym (ap with_quotes_doubled parts ∙ flat_map-append doubled_byte front (39 ∷ back)))
