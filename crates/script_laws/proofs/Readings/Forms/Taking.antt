-- What a reader does at an input, compared with a form.
use Rattle.std.proofs.Common.{◌≡◌, ◌≢◌, ℕ, ◌+◌, ◌≤◌, true, List, [], ◌∷◌, ◌++◌, Ok, Err}
use Rattle.script_lex.specs.declared.kind.Kind.TheVariants as k
use Rattle.script_lex.specs.declared.token.Token.{Token}
use Rattle.script_tokens.specs.declared.fault.Fault.{Fault}
use Rattle.script_tokens.specs.declared.fault.Fault.TheVariants.{At}
use Rattle.script_tokens.specs.Input.{Input, Outcome, Reader, first_of, no_token}
use Rattle.script_laws.specs.Readings.Forms.Form.{Form}
use Rattle.script_laws.specs.Readings.Nesting.{nests}

-- Where a reader reads: where there are no expressions; where there are whole ones; and inside one, where each of `+ - || *` takes one of those that are left,
-- and in the form so many more of parentheses, `not` and unary minus may nest than are read.
pub data Mode : Type 0 where
  Plain : Mode
  Around : Mode
  Inside : ℕ → Mode

abbrev pub Budget : Mode → ℕ → ℕ → ℕ → Type 0
Budget (Inside near) count before after = before ≡ count + after
Budget _ count before after = count ≡ 0

abbrev pub Enough : Mode → ℕ → ℕ → Type 0
Enough (Inside near) count before = count ≤ before
Enough _ count before = count ≡ 0

-- as many may nest in the form as are read, so that none says what stands behind the last that does
abbrev pub IsTight : Mode → Type 0
IsTight Plain = ⊥
IsTight Around = Unit {0}
IsTight (Inside near) = near ≡ 0

-- the tokens that were taken are the form's, and say what was read
pub record Took {A : Type 0} (mode : Mode) (form : Form A) (i : Input) (a : A) (j : Input) : Type 0 where
  pub prefix : List Token
  pub count : ℕ
  pub joined : i.ahead ≡ prefix ++ j.ahead
  pub budget : Budget mode count i.operators j.operators
  pub said : form prefix count a

-- some tokens of the form begin with these
pub record Completed {A : Type 0} (mode : Mode) (form : Form A) (before : List Token) (operators : ℕ) : Type 0 where
  pub more : List Token
  pub count : ℕ
  pub value : A
  pub enough : Enough mode count operators
  pub said : form (before ++ more) count value

-- The refused token is the first of these; or it stands behind the first, a word that wants a parenthesis, which would nest too deep.
pub data Stands (mode : Mode) (behind : List Token) (e : Fault) : Type 0 where
  Here : e ≡ At (first_of behind).at → Stands mode behind e
  TooDeep : IsTight mode → (t : Token) (after : List Token) → behind ≡ t ∷ after → nests t.kind ≡ true → e ≡ At (first_of after).at → Stands mode behind e

-- Some tokens of the form begin with those before the refused token, or before the word behind which it stands.
pub record Refused {A : Type 0} (mode : Mode) (form : Form A) (i : Input) (e : Fault) : Type 0 where
  pub before : List Token
  pub behind : List Token
  pub joined : i.ahead ≡ before ++ behind
  pub done : Completed mode form before i.operators
  pub stands : Stands mode behind e

abbrev pub Kept : {A : Type 0} → Mode → Form A → Input → Outcome A → Type 0
Kept mode form i (Ok p) = Took mode form i p.0 p.1
Kept mode form i (Err e) = Refused mode form i e

-- the same, under a name
pub record Out {A : Type 0} (mode : Mode) (form : Form A) (i : Input) (out : Outcome A) : Type 0 where
  pub kept : Kept mode form i out

abbrev pub last_of : Token → List Token → Token
last_of t [] = t
last_of t (u ∷ ts) = last_of u ts

-- the last token is no minus that digits follow
abbrev pub Whole : List Token → Type 0
Whole tokens = (last_of no_token tokens).kind ≢ k.Signed

-- what a reader reads is what the form says, and what it refuses begins no tokens of the form
pub record Sound {A : Type 0} (mode : Mode) (p : Reader A) (form : Form A) : Type 0 where
  pub run : (i : Input) → Whole i.ahead → Kept mode form i (p i)

pub record Inhabited {A : Type 0} (form : Form A) : Type 0 where
  pub tokens : List Token
  pub value : A
  pub said : form tokens 0 value
