-- What forms are made of. A form relates lists of tokens to what they say.
use Rattle.std.specs.Prelude.{◌≡◌, ◌⊎◌, ℕ, ◌+◌, Bool, true, false, List, [], ◌∷◌, ◌++◌, Option, Some, None}
use Rattle.script_lex.specs.declared.kind.Kind.{Kind}
use Rattle.script_lex.specs.declared.token.Token.{Token}

-- which tokens say what, and how many of the expression's `+ - || *` they have
abbrev pub Form : Type 0 → Type 1
Form A = List Token → ℕ → A → Type 0

-- tokens, and those that follow them
pub record Both (p q : List Token → ℕ → Type 0) (tokens : List Token) (count : ℕ) : Type 0 where
  pub prefix : List Token
  pub rest : List Token
  pub prefix_count : ℕ
  pub rest_count : ℕ
  pub joined : tokens ≡ prefix ++ rest
  pub counted : count ≡ prefix_count + rest_count
  pub first : p prefix prefix_count
  pub second : q rest rest_count

-- no tokens, which say this
abbrev pub says : {A : Type 0} → A → Form A
says a tokens count found = (tokens ≡ []) × (count ≡ 0) × (found ≡ a)

-- one form, and one that may depend on what the first says
abbrev pub sequence : {A B : Type 0} → Form A → (A → Form B) → Form B
sequence {A} p f tokens count b = (a : A) × Both (λ ts n. p ts n a) (λ ts n. f a ts n b) tokens count

infixl 10 ◌>>=◌
abbrev pub ◌>>=◌ : {A B : Type 0} → Form A → (A → Form B) → Form B
p >>= f = sequence p f

infixl 10 ◌>>◌
abbrev pub ◌>>◌ : {A B : Type 0} → Form A → Form B → Form B
p >> q = sequence p (λ _. q)

infixr 11 ◌<$>◌
abbrev pub ◌<$>◌ : {A B : Type 0} → (A → B) → Form A → Form B
f <$> p = sequence p (λ x. says (f x))

-- one form or the other
infixr 9 ◌or◌
abbrev pub ◌or◌ : {A : Type 0} → Form A → Form A → Form A
(p or q) tokens count a = p tokens count a ⊎ q tokens count a

-- one token of this kind
abbrev pub word : Kind → Form (Unit {0})
word kind tokens count _ = (t : Token) × (tokens ≡ t ∷ []) × (t.kind ≡ kind) × (count ≡ 0)

-- a form, or no tokens
abbrev pub maybe : {A : Type 0} → Form A → Form (Option A)
maybe p tokens count None = (tokens ≡ []) × (count ≡ 0)
maybe p tokens count (Some a) = p tokens count a

-- whether a form stands there, or no tokens
abbrev pub whether : Form (Unit {0}) → Form Bool
whether p tokens count false = (tokens ≡ []) × (count ≡ 0)
whether p tokens count true = p tokens count tt

-- one item or more, with this mark between
abbrev pub separated_list : {A : Type 0} → Kind → Form A → Form (List A)
separated_list mark item tokens count [] = ⊥
separated_list mark item tokens count (a ∷ []) = item tokens count a
separated_list mark item tokens count (a ∷ b ∷ more) =
    Both (λ ts n. item ts n a) (Both (λ ts n. word mark ts n tt) (λ ts n. separated_list mark item ts n (b ∷ more))) tokens count
