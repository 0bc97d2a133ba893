-- What stands inside one more of parentheses, `not` and unary minus.
use Rattle.std.proofs.Common.{◌≡◌, ◌≢◌, ℕ, Bool, true, false, if◌then◌else◌, ◌==◌, List, [], ◌∷◌, drop, Ok, Err, ◌⊎◌, inl, inr, refl, ap, ◌∙◌}
use Rattle.std.proofs.lemmas.Bool.{eqb-true, eqb-false}
use Rattle.script_types.specs.declared.expression.Syn.{Syn}
use Rattle.script_lex.specs.declared.kind.Kind.{Kind}
use Rattle.script_lex.specs.declared.kind.Kind.TheVariants as k
use Rattle.script_lex.specs.declared.token.Token.{Token}
use Rattle.script_lex.specs.Lex.{same_kind}
use Rattle.script_tokens.proofs.Alike.{same}
use Rattle.script_tokens.specs.declared.fault.Fault.TheVariants.{At}
use Rattle.script_tokens.specs.Input.{Input, Outcome, Reader, and_then, refuse, expect, take_token, head, kind, next, sees, first_of}
use Rattle.script_expr.specs.declared.grammar.Level.{Level}
use Rattle.script_expr.specs.declared.grammar.Level.TheVariants as level
use Rattle.script_expr.specs.Expr as r
use Rattle.script_laws.specs.Readings.Forms.Form.{Form, sequence, word}
use Rattle.script_laws.specs.Readings.Forms.Expressions.{nesting_token, Place, Anywhere, BehindNot, BehindMinus}
use Rattle.script_laws.specs.Readings.Nesting.{nests}
use Rattle.script_laws.proofs.Readings.Forms.Taking.{Inside, Took, TooDeep, Kept, Out, Whole, Sound, Inhabited}
use Rattle.script_laws.proofs.Readings.Forms.Steps.{is_end, budget_none, begun_none, token_of, taken_by, whole_next, both_taken, within_out, refused_here}
use Rattle.script_laws.proofs.Readings.Expressions.Steps.{Within}

-- where an expression stands that is read so
abbrev pub place : Level → Place
place level.Whole = Anywhere
place level.Negation = BehindNot
place level.Unary = BehindMinus

-- A reader in which `depth` more may nest, and a form in which `room` more may. Where none may in the reader, the form has room, or as many nest in it as are read.
pub record Fits (depth room near : ℕ) : Type 0 where
  pub roomy : depth ≢ 0 → room ≢ 0
  pub full : depth ≡ 0 → (near ≡ 0) ⊎ (room ≢ 0)

abbrev pub nested_form : {A : Type 0} → ℕ → Kind → Form A → Form A
nested_form depth kd g = sequence (nesting_token depth kd) (λ _. g)

-- the token that nests
entered_one : (room near : ℕ) (kd : Kind) → room ≢ 0 → (t : Token) (ts : List Token) (o : ℕ) → t.kind ≡ kd
    → Took (Inside near) (nesting_token room kd) (record { ahead = t ∷ ts; operators = o }) tt (record { ahead = ts; operators = o })
entered_one room near kd some t ts o is = record { prefix = t ∷ []; count = 0; joined = refl; budget = budget_none (Inside near) o; said = (t, refl, is, some, refl) }

some_nested : {A : Type 0} (room : ℕ) (kd : Kind) {g : Form A} → room ≢ 0 → Inhabited g → Inhabited (nested_form room kd g)
some_nested room kd some any = record {
  tokens = token_of kd ∷ any.tokens;
  value = any.value;
  said = (
    tt,
    record {
      prefix = token_of kd ∷ [];
      rest = any.tokens;
      prefix_count = 0;
      rest_count = 0;
      joined = refl;
      counted = refl;
      first = (token_of kd, refl, refl, some, refl);
      second = any.said;
    },
  );
}

-- where one more may nest
entered_by : {A : Type 0} (room near : ℕ) (kd : Kind) → is_end kd ≡ false → room ≢ 0 → (p : Reader A) (g : Form A)
    → Sound (Inside near) p g → Inhabited g → (xs : List Token) (o : ℕ) → Whole xs → (s : Bool) → same_kind (first_of xs).kind kd ≡ s
    → Kept (Inside near) (nested_form room kd g) (record { ahead = xs; operators = o })
    (and_then {A = Unit {0}} (if s then Ok (tt, record { ahead = drop 1 xs; operators = o }) else Err (At (first_of xs).at)) (λ _. p))
unfolding head
entered_by room near kd not_end some p g sp any [] o whole true is = absurd (true_false (ap is_end (same is) ∙ not_end))
  where
    true_false : true ≡ false → ⊥
    true_false e = cc
entered_by room near kd not_end some p g sp any (t ∷ ts) o whole true is =
    let i : Input = record { ahead = t ∷ ts; operators = o } in
    let j : Input = record { ahead = ts; operators = o } in
    both_taken (Inside near) (nesting_token room kd) (λ _. g) i tt j (entered_one room near kd some t ts o (same is)) (p j) (sp.run j (whole_next (t ∷ ts) whole))
entered_by room near kd not_end some p g sp any xs o whole false is =
    refused_here (Inside near) (record { ahead = xs; operators = o }) (some_nested room kd some any)

module _ (depth room near : ℕ) (fits : Fits depth room near) (expr : Level → Reader Syn) where
  pub entered : {A : Type 0} (kd : Kind) → is_end kd ≡ false → room ≢ 0 → {p : Reader A} {g : Form A} → Sound (Inside near) p g → Inhabited g
      → (i : Input) → Whole i.ahead → Kept (Inside near) (nested_form room kd g) i (and_then (expect kd i) (λ _. p))
  unfolding expect sees head next
  entered kd not_end some {p = p} {g = g} sp any i whole =
      entered_by room near kd not_end some p g sp any i.ahead i.operators whole (same_kind (first_of i.ahead).kind kd) refl

  cases_by : {A : Type 0} (p : Reader A) (kd : Kind) (i : Input) (P : Outcome A → Type 0) (b : Bool) → (b ≡ true → P (Err (At (head i).at)))
      → (b ≡ false → P (and_then (expect kd i) (λ _. p))) → P (and_then (if b then refuse i else expect kd i) (λ _. p))
  cases_by p kd i P true none some = none refl
  cases_by p kd i P false none some = some refl

  -- whether one more may nest
  pub by_depth : {A : Type 0} (p : Reader A) (kd : Kind) (i : Input) (P : Outcome A → Type 0) → (depth ≡ 0 → P (Err (At (head i).at)))
      → (depth ≢ 0 → P (and_then (expect kd i) (λ _. p))) → P (and_then (r.deeper depth expr kd i) (λ _. p))
  unfolding r.deeper
  by_depth p kd i P none some = cases_by p kd i P (depth == 0) (λ e. none (eqb-true depth 0 e)) (λ e. some (eqb-false depth 0 e))

  -- a token that nests begins one of the forms that may stand here
  pub deeper_read : {A : Type 0} (kd : Kind) → is_end kd ≡ false → {p : Reader A} {g h : Form A} → (depth ≢ 0 → Sound (Inside near) p g)
      → (room ≢ 0 → Inhabited g) → Inhabited h → Within (nested_form room kd g) h → Sound (Inside near) (λ i. and_then (r.deeper depth expr kd i) (λ _. p)) h
  deeper_read kd not_end {p = p} {g = g} {h = h} sp any other up = record {
    run = λ i whole.
        by_depth p kd i (Kept (Inside near) h i) (λ none. refused_here (Inside near) i other)
        (λ some. within_out (Inside near) (nested_form room kd g) h i up (and_then (expect kd i) (λ _. p)) (entered kd not_end (fits.roomy some) (sp some) (any (fits.roomy some)) i whole));
  }

  -- as many nest as may, behind a word that wants one more: other tokens of the form begin here
  too_deep : {A : Type 0} (kd : Kind) → is_end kd ≡ false → nests kd ≡ true → near ≡ 0 → {h : Form A} → Inhabited h → (xs : List Token) (o : ℕ) → (first_of xs).kind ≡ kd
      → Kept (Inside near) h (record { ahead = xs; operators = o }) (Err (At (first_of (drop 1 xs)).at))
  too_deep kd not_end wants none other [] o is = absurd (true_false (ap is_end is ∙ not_end))
    where
      true_false : true ≡ false → ⊥
      true_false e = cc
  too_deep kd not_end wants none other (t ∷ ts) o is = record {
    before = [];
    behind = t ∷ ts;
    joined = refl;
    done = begun_none (Inside near) o other;
    stands = TooDeep none t ts refl (ap nests is ∙ wants) refl;
  }

  refused_behind : {A : Type 0} (kd : Kind) → is_end kd ≡ false → nests kd ≡ true → (g h : Form A) → (room ≢ 0 → Inhabited g) → Inhabited h
      → Within (sequence (word kd) (λ _. nested_form room k.LParen g)) h → (xs : List Token) (o : ℕ) → (first_of xs).kind ≡ kd
      → (near ≡ 0) ⊎ (room ≢ 0) → Kept (Inside near) h (record { ahead = xs; operators = o }) (Err (At (first_of (drop 1 xs)).at))
  unfolding head
  refused_behind kd not_end wants g h any other up xs o is (inl none) = too_deep kd not_end wants none other xs o is
  refused_behind kd not_end wants g h any other up xs o is (inr some) =
      let i : Input = record { ahead = xs; operators = o } in
      let j : Input = record { ahead = drop 1 xs; operators = o } in
      let t : Took (Inside near) (word kd) i tt j = taken_by kd not_end xs o is in
      within_out (Inside near) (sequence (word kd) (λ _. nested_form room k.LParen g)) h i up (Err (At (first_of (drop 1 xs)).at))
      (both_taken (Inside near) (word kd) (λ _. nested_form room k.LParen g) i tt j t (Err (At (first_of (drop 1 xs)).at))
      (refused_here (Inside near) j (some_nested room k.LParen some (any some))))

  -- a word and a parenthesis begin one of the forms that may stand here
  pub behind_nesting : {A : Type 0} (kd : Kind) → is_end kd ≡ false → nests kd ≡ true → {p : Reader A} {g h : Form A} → (depth ≢ 0 → Sound (Inside near) p g)
      → (room ≢ 0 → Inhabited g) → Inhabited h → Within (sequence (word kd) (λ _. nested_form room k.LParen g)) h → (i : Input) → Whole i.ahead → kind i ≡ kd
      → Out (Inside near) h i (and_then (take_token i) (λ _ j. and_then (r.deeper depth expr k.LParen j) (λ _. p)))
  unfolding head next
  behind_nesting kd not_end wants {p = p} {g = g} {h = h} sp any other up i whole is =
      let both : Form _ = sequence (word kd) (λ _. nested_form room k.LParen g) in
      let j : Input = record { ahead = drop 1 i.ahead; operators = i.operators } in
      let t : Took (Inside near) (word kd) i tt j = taken_by kd not_end i.ahead i.operators is in
      record {
        kept = by_depth p k.LParen j (Kept (Inside near) h i) (λ none. refused_behind kd not_end wants g h any other up i.ahead i.operators is (fits.full none))
            (λ some. within_out (Inside near) both h i up (and_then (expect k.LParen j) (λ _. p))
            (both_taken (Inside near) (word kd) (λ _. nested_form room k.LParen g) i tt j t (and_then (expect k.LParen j) (λ _. p))
            (entered k.LParen refl (fits.roomy some) (sp some) (any (fits.roomy some)) j (whole_next i.ahead whole))));
      }
