-- A loop whose number of turns is bounded by the tokens that are left is steady where each turn is, and each turn but the last takes a token.
use Rattle.std.proofs.Common.{◌≡◌, ℕ, zero, suc, ◌+◌, ◌≤◌, List, [], ◌∷◌, take, drop, length, Ok, Err, refl, ap, ◌∙◌, arith}
use Rattle.script_lex.specs.declared.token.Token.{Token}
use Rattle.script_tokens.specs.declared.fault.Fault.TheVariants.{At}
use Rattle.script_tokens.specs.Input.{Input, Reader, and_then, pure, first_of}
use Rattle.script_laws.proofs.Readings.Steady.Settling.{before, Leaves, Settled, Taken, Refused, IsSteady}
use Rattle.script_laws.proofs.Readings.Steady.Steps.{drop_drop, alike_less, alike_drop, leaves_both}

-- what a turn leads to: the end with a result, or one more turn
pub data Turn (S A : Type 0) : Type 0 where
  Done : A → Turn S A
  Again : S → Turn S A

abbrev pub after_turn : {S A : Type 0} → (S → Reader A) → Turn S A → Reader A
after_turn more (Done a) = pure a
after_turn more (Again s) = more s

module _ {S A : Type 0} (loop : ℕ → S → Reader A) (turn : S → Reader (Turn S A))
    (unrolled : (n : ℕ) (s : S) (i : Input) → loop (suc n) s i ≡ and_then (turn s i) (after_turn (loop n)))
    (ended : (s : S) (o : ℕ) → loop 0 s (record { ahead = []; operators = o }) ≡ loop 1 s (record { ahead = []; operators = o }))
    (steady : (s : S) → IsSteady (turn s))
    (shrinks : (s : S) (i j : Input) (more : S) → turn s i ≡ Ok (Again more, j) → suc (length j.ahead) ≤ length i.ahead) where
  data Ends (s : S) (i : Input) : Type 0 where
    EndsWith : (k : ℕ) (a : A) (n : ℕ) → Leaves k i.ahead → ((other : List Token) (m : ℕ) → take (suc k) i.ahead ≡ take (suc k) other → length other ≤ m
        → loop m s (before i other) ≡ Ok (a, record { ahead = drop k other; operators = n })) → Ends s i
    EndsAt : (k : ℕ) → Leaves k i.ahead → ((other : List Token) (m : ℕ) → take (suc k) i.ahead ≡ take (suc k) other → length other ≤ m
        → loop m s (before i other) ≡ Err (At (first_of (drop k other)).at)) → Ends s i

  record Unrolls (m : ℕ) (s : S) (i : Input) : Type 0 where
    left : ℕ
    same : loop m s i ≡ and_then (turn s i) (after_turn (loop left))
    enough : length i.ahead ≤ suc left

  unroll_from : (m : ℕ) (s : S) (xs : List Token) (o : ℕ) → length xs ≤ m → Unrolls m s (record { ahead = xs; operators = o })
  unroll_from zero s [] o h = record { left = 0; same = ended s o ∙ unrolled 0 s (record { ahead = []; operators = o }); enough = omega arith }
  unroll_from zero s (x ∷ xs) o h = absurd (omega arith)
  unroll_from (suc m) s xs o h = record { left = m; same = unrolled m s (record { ahead = xs; operators = o }); enough = h }

  unroll : (m : ℕ) (s : S) (i : Input) → length i.ahead ≤ m → Unrolls m s i
  unroll m s i h = unroll_from m s i.ahead i.operators h

  joined : (s : S) (i : Input) (k : ℕ) (more : S) (o : ℕ) → Leaves k i.ahead
      → ((other : List Token) → take (suc k) i.ahead ≡ take (suc k) other → turn s (before i other) ≡ Ok (Again more, record { ahead = drop k other; operators = o }))
      → Ends more (record { ahead = drop k i.ahead; operators = o }) → Ends s i
  joined s i k more o v g (EndsWith l a p w f) =
      EndsWith (k + l) a p (leaves_both k l i.ahead v w) (λ other m e enough.
      let u = unroll m s (before i other) enough in
      let first : suc k ≤ suc (k + l) = omega arith in
      let took = g other (alike_less (suc k) (suc (k + l)) i.ahead other first e) in
      let less : suc (length (drop k other)) ≤ length other = shrinks s (before i other) (record { ahead = drop k other; operators = o }) more took in
      let within : length (drop k other) ≤ u.left = omega (arith, u.enough) in
      u.same ∙ ap (λ out. and_then out (after_turn (loop u.left))) took ∙ f (drop k other) u.left (alike_drop k l i.ahead other e) within
      ∙ ap (λ rest. Ok (a, record { ahead = rest; operators = p })) (drop_drop k l other))
  joined s i k more o v g (EndsAt l w f) =
      EndsAt (k + l) (leaves_both k l i.ahead v w) (λ other m e enough.
      let u = unroll m s (before i other) enough in
      let first : suc k ≤ suc (k + l) = omega arith in
      let took = g other (alike_less (suc k) (suc (k + l)) i.ahead other first e) in
      let less : suc (length (drop k other)) ≤ length other = shrinks s (before i other) (record { ahead = drop k other; operators = o }) more took in
      let within : length (drop k other) ≤ u.left = omega (arith, u.enough) in
      u.same ∙ ap (λ out. and_then out (after_turn (loop u.left))) took ∙ f (drop k other) u.left (alike_drop k l i.ahead other e) within
      ∙ ap (λ rest. Err (At (first_of rest).at)) (drop_drop k l other))

  ends_by : (s : S) (i : Input) → ((more : S) (j : Input) → suc (length j.ahead) ≤ length i.ahead → Ends more j) → Settled (turn s) i → Ends s i
  ends_by s i below (Refused k v g) =
      EndsAt k v (λ other m e enough. let u = unroll m s (before i other) enough in u.same ∙ ap (λ out. and_then out (after_turn (loop u.left))) (g other e))
  ends_by s i below (Taken k (Done a) o v g) =
      EndsWith k a o v (λ other m e enough. let u = unroll m s (before i other) enough in u.same ∙ ap (λ out. and_then out (after_turn (loop u.left))) (g other e))
  ends_by s i below (Taken k (Again more) o v g) =
      let less : suc (length (drop k i.ahead)) ≤ length i.ahead = shrinks s i (record { ahead = drop k i.ahead; operators = o }) more (g i.ahead refl) in
      joined s i k more o v g (below more (record { ahead = drop k i.ahead; operators = o }) less)

  ends : (n : ℕ) (s : S) (i : Input) → length i.ahead ≤ n → Ends s i
  ends zero s i h = ends_by s i (λ more j less. absurd (omega arith)) (steady s i)
  ends (suc n) s i h = ends_by s i (λ more j less. let within : length j.ahead ≤ n = omega arith in ends n more j within) (steady s i)

  settled_by : (s : S) (i : Input) → Ends s i → Settled (λ j. loop (length j.ahead) s j) i
  settled_by s i (EndsWith k a n v f) = Taken k a n v (λ other e. f other (length other) e (omega arith))
  settled_by s i (EndsAt k v f) = Refused k v (λ other e. f other (length other) e (omega arith))

  pub looped : (s : S) → IsSteady (λ j. loop (length j.ahead) s j)
  looped s = λ i. settled_by s i (ends (length i.ahead) s i (omega arith))
