-- The tokens after one that was cut are those of the text behind it.
use Rattle.std.proofs.Common.{◌++◌, append_assoc, ◌<◌, true, false, slice_index, ◌≡◌, ℕ, zero, suc, ◌+◌, ◌-◌, ◌≤◌, List, [], ◌∷◌, length, drop, ap, ◌∙◌, sym, arith}
use Rattle.script_lex.specs.declared.kind.Kind.TheVariants.{Bad}
use Rattle.script_lex.specs.declared.token.Token.{Token}
use Rattle.script_lex.specs.Lex.{tokens_from, same_kind, is_blank, first_token}

passed : (n at : ℕ) (z : List ℕ) → n ≤ length z → tokens_from n at z ≡ tokens_from 0 (at + n) (drop n z)
passed zero at z h = let e : at ≡ at + 0 = omega arith in ap (λ k. tokens_from 0 k z) e
passed (suc n) at [] h = absurd (omega arith)
passed (suc n) at (b ∷ z) h =
    let e : (at + 1) + n ≡ at + suc n = omega arith in
    let below : n ≤ length z = omega arith in
    passed n (at + 1) z below ∙ ap (λ k. tokens_from 0 k (drop n z)) e

pub tokens_go : (n at b : ℕ) (z : List ℕ) → 1 ≤ n → n ≤ length (b ∷ z) → tokens_from (n - 1) (at + 1) z ≡ tokens_from 0 (at + n) (drop n (b ∷ z))
tokens_go zero at b z h below = absurd (omega arith)
tokens_go (suc n) at b z h below =
    let e : suc n - 1 ≡ n = omega arith in
    let e2 : (at + 1) + n ≡ at + suc n = omega arith in
    let under : n ≤ length z = omega arith in
    ap (λ k. tokens_from k (at + 1) z) e ∙ passed n (at + 1) z under ∙ ap (λ k. tokens_from 0 k (drop n z)) e2

pub tokens_step : (at : ℕ) (rest : List ℕ) → 0 < length rest → is_blank (slice_index rest 0) ≡ false → same_kind (first_token at rest).0.kind Bad ≡ false
    → 1 ≤ (first_token at rest).1 → (first_token at rest).1 ≤ length rest
    → tokens_from 0 at rest ≡ (first_token at rest).0 ∷ tokens_from 0 (at + (first_token at rest).1) (drop (first_token at rest).1 rest)
tokens_step at [] some blank bad h below = absurd (omega arith)
tokens_step at (b ∷ z) some blank bad h below = rw (blank, bad, tokens_go (first_token at (b ∷ z)).1 at b z h below)

pub tokens_end : (at : ℕ) (rest : List ℕ) → 0 < length rest → is_blank (slice_index rest 0) ≡ false → same_kind (first_token at rest).0.kind Bad ≡ true
    → tokens_from 0 at rest ≡ (first_token at rest).0 ∷ []
tokens_end at [] some blank bad = absurd (omega arith)
tokens_end at (b ∷ z) some blank bad = rw (blank, bad)

goes : (so_far found all : List Token) (at : ℕ) (rest after : List ℕ) (p : Token × ℕ) → first_token at rest ≡ p
    → so_far ++ tokens_from 0 at rest ≡ all → found ≡ so_far ++ p.0 ∷ [] → 0 < length rest → is_blank (slice_index rest 0) ≡ false
    → same_kind p.0.kind Bad ≡ false → 1 ≤ p.1 → p.1 ≤ length rest → after ≡ drop p.1 rest
    → found ++ tokens_from 0 (at + p.1) after ≡ all
goes so_far found all at rest after p e known pushed some blank bad h below behind =
    let bad2 : same_kind (first_token at rest).0.kind Bad ≡ false = rw e bad in
    let h2 : 1 ≤ (first_token at rest).1 = rw e h in
    let below2 : (first_token at rest).1 ≤ length rest = rw e below in
    let step : tokens_from 0 at rest ≡ p.0 ∷ tokens_from 0 (at + p.1) (drop p.1 rest) = rw e at (tokens_step at rest some blank bad2 h2 below2) in
    rw (pushed, behind, append_assoc) (rw step at known)

-- one more token is found, and the rest is that behind it
pub tokens_found : (so_far found all : List Token) (at len : ℕ) (rest after : List ℕ) (t : Token) → record { 0 = t; 1 = len } ≡ first_token at rest
    → so_far ++ tokens_from 0 at rest ≡ all → found ≡ so_far ++ t ∷ [] → 0 < length rest → is_blank (slice_index rest 0) ≡ false
    → same_kind t.kind Bad ≡ false → 1 ≤ len → len ≤ length rest → after ≡ drop len rest
    → found ++ tokens_from 0 (at + len) after ≡ all
tokens_found so_far found all at len rest after t e = goes so_far found all at rest after (t, len) (sym e)
