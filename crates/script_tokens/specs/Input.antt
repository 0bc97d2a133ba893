-- What a reader reads from, and the steps that every form is made of.
use Rattle.std.specs.Prelude.{◌≡◌, ◌≢◌, ℕ, zero, suc, ◌-◌, Bool, true, false, if◌then◌else◌, ◌==◌, List, [], ◌∷◌, ◌++◌, length, drop, Option, Some, None, Result, Ok, Err}
use Rattle.script_lex.specs.declared.kind.Kind.{Kind}
use Rattle.script_lex.specs.declared.kind.Kind.TheVariants as k
use Rattle.script_lex.specs.declared.token.Content.{Content}
use Rattle.script_lex.specs.declared.token.Content.TheVariants.{Nothing}
use Rattle.script_lex.specs.declared.token.Token.{Token}
use Rattle.script_lex.specs.Lex.{same_kind}
use Rattle.script_tokens.specs.declared.fault.Fault.{Fault}
use Rattle.script_tokens.specs.declared.fault.Fault.TheVariants.{Memory, At}

pub record Input : Type 0 where
  -- the tokens that are not read yet
  pub ahead : List Token
  -- how many more of `+ - || *` the expression may have
  pub operators : ℕ

abbrev pub start_of : List Token → Input
start_of tokens = record { ahead = tokens; operators = 0 }

-- ---- the next token

-- what stands behind the last token, which is never read
abbrev pub no_token : Token
no_token = record { kind = k.LineEnd; content = Nothing; at = 0 }

abbrev pub first_of : List Token → Token
first_of [] = no_token
first_of (t ∷ ts) = t

unfoldable pub head : Input → Token
head i = first_of i.ahead

abbrev pub kind : Input → Kind
kind i = (head i).kind

-- what a token holds, where there is one
abbrev pub or_nothing : Option Content → Content
or_nothing None = Nothing
or_nothing (Some content) = content

unfoldable pub next : Input → Input
next i = record i { ahead = drop 1 i.ahead }

-- the kind of the token after the next
unfoldable pub second_kind : Input → Kind
second_kind i = (first_of (drop 1 i.ahead)).kind

-- ---- readers

abbrev pub Outcome : Type 0 → Type 0
Outcome A = Result (A × Input) Fault

abbrev pub Reader : Type 0 → Type 0
Reader A = Input → Outcome A

abbrev pub and_then : {A B : Type 0} → Outcome A → (A → Reader B) → Outcome B
and_then (Ok p) f = f p.0 p.1
and_then (Err e) f = Err e

infixl 10 ◌>>=◌
abbrev pub ◌>>=◌ : {A B : Type 0} → Reader A → (A → Reader B) → Reader B
p >>= f = λ i. and_then (p i) f

infixl 10 ◌>>◌
abbrev pub ◌>>◌ : {A B : Type 0} → Reader A → Reader B → Reader B
p >> q = p >>= (λ _. q)

abbrev pub pure : {A : Type 0} → A → Reader A
pure a = λ i. Ok (a, i)

infixr 11 ◌<$>◌
abbrev pub ◌<$>◌ : {A B : Type 0} → (A → B) → Reader A → Reader B
f <$> p = p >>= (λ x. pure (f x))

-- the fault stands at the next token
abbrev pub refusal : Input → Fault
refusal i = At (head i).at

abbrev pub refuse : {A : Type 0} → Reader A
refuse = λ i. Err (refusal i)

abbrev pub peek : Reader Kind
peek = λ i. Ok (kind i, i)

-- the token, whatever its kind
abbrev pub take_token : Reader (Unit {0})
take_token = λ i. Ok (tt, next i)

unfoldable pub sees : Kind → Input → Bool
sees k i = same_kind (kind i) k

unfoldable pub after : Kind → Input → Input
after k i = if sees k i then next i else i

-- takes a token of this kind, if it comes next
abbrev pub eat : Kind → Reader Bool
eat k = λ i. Ok (sees k i, after k i)

unfoldable pub expect : Kind → Reader (Unit {0})
expect k = λ i. if sees k i then Ok (tt, next i) else refuse i

-- what the token introduces, if it comes next
abbrev pub clause : {A : Type 0} → Kind → Reader A → Reader (Option A)
clause k p = do
  found ← eat k
  if found then (do x ← p; pure (Some x)) else pure None

-- ---- lists. The number bounds the turns, and each turn takes a token, so the count of tokens is enough.

abbrev pub turns : Input → ℕ
turns i = length i.ahead

unfoldable pub separated_from : {A : Type 0} → Kind → Reader A → ℕ → List A → Reader (List A)
separated_from mark item zero found = refuse
separated_from mark item (suc n) found = do
  x ← item
  more ← eat mark
  if more then separated_from mark item n (found ++ x ∷ []) else pure (found ++ x ∷ [])

-- one or more, with commas between
abbrev pub comma_list : {A : Type 0} → Reader A → Reader (List A)
comma_list item = λ i. separated_from k.Comma item (turns i) [] i

-- ---- the count of `+ - || *` in one expression

abbrev pub most_operators : ℕ
most_operators = 1000

-- a whole expression begins
abbrev pub fresh : Reader (Unit {0})
fresh = λ i. Ok (tt, record i { operators = most_operators })

-- takes an operator, where the expression may have one more
unfoldable pub operator : Reader (Unit {0})
operator = λ i. if i.operators == 0 then refuse i else Ok (tt, record { ahead = drop 1 i.ahead; operators = i.operators - 1 })

-- ---- what a function that reads ensures: the reader's outcome, unless memory runs out

abbrev pub Reads : {A : Type 0} → Outcome A → Result A Fault → Input → Type 0
Reads outcome (Ok a) new = outcome ≡ Ok (a, new)
Reads outcome (Err e) new = e ≢ Memory → outcome ≡ Err e
