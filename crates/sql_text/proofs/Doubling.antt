-- Marks doubled one at a time.
use Rattle.std.proofs.Common.{◌≡◌, ◌≢◌, ℕ, suc, ◌<◌, cond, List, [], ◌∷◌, ◌++◌, length, get_or, refl, ap, ◌∙◌, append_assoc, arith}
use Rattle.std.proofs.lemmas.Bool.{ne_eqb, eq-eqb}
use Rattle.std.proofs.lemmas.Grind.{flat_map-append}
use Rattle.sql_text.specs.Names.{with_byte_doubled, doubled_byte}

-- a text without the mark stays
pub doubled_plain : (mark : ℕ) (xs : List ℕ) → ((i : ℕ) → i < length xs → get_or xs i 0 ≢ mark) → with_byte_doubled mark xs ≡ xs
doubled_plain mark [] plain = refl
doubled_plain mark (x ∷ xs) plain =
    let other : (i : ℕ) → i < length xs → get_or xs i 0 ≢ mark = λ i h. plain (suc i) (omega arith) in
    ap (λ b. cond b (mark ∷ mark ∷ []) (x ∷ []) ++ with_byte_doubled mark xs) (ne_eqb x mark (plain 0 (omega arith))) ∙ ap (λ r. x ∷ r) (doubled_plain mark xs other)

doubled_mark : (mark : ℕ) (back : List ℕ) → with_byte_doubled mark (mark ∷ back) ≡ mark ∷ mark ∷ with_byte_doubled mark back
doubled_mark mark back = ap (λ b. cond b (mark ∷ mark ∷ []) (mark ∷ []) ++ with_byte_doubled mark back) (eq-eqb mark mark refl)

-- a text up to its first mark
pub doubled_split : (mark : ℕ) (before back rest : List ℕ) → rest ≡ before ++ mark ∷ back → ((i : ℕ) → i < length before → get_or before i 0 ≢ mark) → with_byte_doubled mark rest ≡ before ++ (mark ∷ mark ∷ with_byte_doubled mark back)
doubled_split mark before back rest parts plain =
    ap (with_byte_doubled mark) parts ∙ (flat_map-append (doubled_byte mark) before (mark ∷ back) ∙ (ap (λ r. r ++ with_byte_doubled mark (mark ∷ back)) (doubled_plain mark before plain) ∙ ap (λ r. before ++ r) (doubled_mark mark back)))

-- the part up to a mark, the mark doubled, and the rest
pub doubled_step : (mark : ℕ) (done before back rest : List ℕ) → with_byte_doubled mark rest ≡ before ++ (mark ∷ mark ∷ with_byte_doubled mark back) → (((done ++ before) ++ mark ∷ []) ++ mark ∷ []) ++ with_byte_doubled mark back ≡ done ++ with_byte_doubled mark rest
doubled_step mark done before back rest split = rw split (simp append_assoc)
