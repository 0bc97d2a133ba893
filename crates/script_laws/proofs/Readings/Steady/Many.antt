-- Items one behind the other are read steadily, where each is, and takes a token.
use Rattle.std.proofs.Common.{◌≡◌, ℕ, suc, ◌≤◌, List, [], ◌∷◌, ◌++◌, length, Option, Some, None, Ok, Err, refl, ap, sym, arith}
use Rattle.script_tokens.specs.Input.{Input, Outcome, Reader, ◌>>=◌, and_then, pure}
use Rattle.script_tokens.specs.Many.{many_by, many_from}
use Rattle.script_laws.proofs.Readings.Steady.Settling.{IsSteady}
use Rattle.script_laws.proofs.Readings.Steady.Steps.{both, made}
use Rattle.script_laws.proofs.Readings.Steady.Loops.{Turn, Done, Again, after_turn, looped}
use Rattle.script_laws.proofs.Readings.Steady.Marked.{none_left, Yields, rest_same, value_same, not_done, len_same, refused_yields}

module _ {A : Type 0} (item : Reader (Option A)) (ended : (o : ℕ) → item (none_left o) ≡ Ok (None, none_left o)) (steady : IsSteady item)
    (takes : (i m : Input) (a : A) → Yields {A = Option A} (item i) (Some a) m → suc (length m.ahead) ≤ length i.ahead) where
  abbrev after_item : List A → Option A → Turn (List A) (List A)
  after_item found None = Done found
  after_item found (Some a) = Again (found ++ a ∷ [])

  abbrev turn : List A → Reader (Turn (List A) (List A))
  turn found = item >>= (λ o. pure (after_item found o))

  same_at : (n : ℕ) (found : List A) (j : Input) (o : Option A) → many_by (many_from item n) found o j ≡ after_turn (many_from item n) (after_item found o) j
  same_at n found j None = refl
  same_at n found j (Some a) = refl

  same : (n : ℕ) (found : List A) (out : Outcome (Option A))
      → and_then out (many_by (many_from item n) found) ≡ and_then (and_then out (λ o. pure (after_item found o))) (after_turn (many_from item n))
  same n found (Ok p) = same_at n found p.1 p.0
  same n found (Err e) = refl

  unrolled : (n : ℕ) (found : List A) (i : Input) → many_from item (suc n) found i ≡ and_then (turn found i) (after_turn (many_from item n))
  unfolding many_from
  unrolled n found i = same n found (item i)

  ends : (found : List A) (o : ℕ) → many_from item 0 found (none_left o) ≡ many_from item 1 found (none_left o)
  unfolding many_from
  ends found o = sym (ap (λ out. and_then out (many_by (many_from item 0) found)) (ended o))

  shrinks_at : (found more : List A) (i j m : Input) (o : Option A) → Yields {A = Option A} (item i) o j
      → Yields {A = Turn (List A) (List A)} (Ok (after_item found o, j)) (Again more) m → suc (length m.ahead) ≤ length i.ahead
  shrinks_at found more i j m None was e = absurd (not_done (value_same e))
  shrinks_at found more i j m (Some a) was e =
      let less : suc (length j.ahead) ≤ length i.ahead = takes i j a was in
      let rest : length j.ahead ≡ length m.ahead = len_same (rest_same e) in
      omega arith

  shrinks : (found more : List A) (i m : Input) (out : Outcome (Option A)) → item i ≡ out
      → Yields {A = Turn (List A) (List A)} (and_then out (λ o. pure (after_item found o))) (Again more) m → suc (length m.ahead) ≤ length i.ahead
  shrinks found more i m (Ok p) was e = shrinks_at found more i p.1 m p.0 was e
  shrinks found more i m (Err f) was e = absurd (refused_yields e)

  pub many_steady : IsSteady (λ i. many_from item (length i.ahead) [] i)
  many_steady =
      looped (many_from item) turn unrolled ends (λ found. both steady (λ o. made (after_item found o))) (λ found i m more e. shrinks found more i m (item i) refl e) []
