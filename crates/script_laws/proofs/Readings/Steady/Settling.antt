-- A reader that looks at most one token ahead of those that it takes.
use Rattle.std.specs.Prelude.{◌≡◌, ℕ, suc, ◌≤◌, Bool, true, false, List, [], ◌∷◌, length, take, drop, Ok, Err}
use Rattle.script_lex.specs.declared.kind.Kind.{Kind}
use Rattle.script_lex.specs.declared.kind.Kind.TheVariants as k
use Rattle.script_lex.specs.declared.token.Token.{Token}
use Rattle.script_tokens.specs.declared.fault.Fault.TheVariants.{At}
use Rattle.script_tokens.specs.Input.{Input, Reader, first_of}

-- the same count of operators before other tokens
abbrev pub before : Input → List Token → Input
before i tokens = record { ahead = tokens; operators = i.operators }

-- what the tokens of a line end with: its end, or a byte that begins no token
abbrev pub closes : Kind → Bool
closes k.LineEnd = true
closes k.Bad = true
closes _ = false

-- Tokens as a line of bytes has them: the last one closes it, and does not stand behind a minus that digits must follow.
abbrev pub IsClosed : List Token → Type 0
IsClosed [] = ⊥
IsClosed (t ∷ []) = closes t.kind ≡ true
IsClosed (t ∷ u ∷ ts) = (t.kind ≡ k.Signed → closes u.kind ≡ false) × IsClosed (u ∷ ts)

-- of the tokens of a line the first k are not all
abbrev pub Leaves : ℕ → List Token → Type 0
Leaves k tokens = IsClosed tokens → suc k ≤ length tokens

-- What a reader does at an input is settled by the tokens that it takes and the next one, whatever follows: it takes the first k tokens, or it is refused
-- at the token behind them. It never takes the last token of a line.
pub data Settled {A : Type 0} (p : Reader A) (i : Input) : Type 0 where
  Taken : (k : ℕ) (a : A) (n : ℕ) → Leaves k i.ahead → ((other : List Token) → take (suc k) i.ahead ≡ take (suc k) other
      → p (before i other) ≡ Ok (a, record { ahead = drop k other; operators = n })) → Settled p i
  Refused : (k : ℕ) → Leaves k i.ahead → ((other : List Token) → take (suc k) i.ahead ≡ take (suc k) other
      → p (before i other) ≡ Err (At (first_of (drop k other)).at)) → Settled p i

abbrev pub IsSteady : {A : Type 0} → Reader A → Type 0
IsSteady p = (i : Input) → Settled p i
