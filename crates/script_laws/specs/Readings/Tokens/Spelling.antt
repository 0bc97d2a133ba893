-- What tokens are spelled as.
use Rattle.std.specs.Prelude.{◌≡◌, ◌≢◌, ℕ, ◌%◌, Bool, true, false, ◌&&◌, if◌then◌else◌, ◌==◌, [], ◌∷◌, ◌++◌, length, codes, take_while, Option, Some, None}
use Rattle.std.specs.Char.{is_ascii_digit}
use Rattle.std.specs.Str.{IsUtf8}
use Rattle.base_core.specs.declared.value.Value.TheVariants as value
use Rattle.script_lex.specs.declared.kind.Kind.{Kind}
use Rattle.script_lex.specs.declared.kind.Kind.TheVariants as k
use Rattle.script_lex.specs.declared.token.Content.{Content}
use Rattle.script_lex.specs.declared.token.Content.TheVariants.{Name, Number, Literal}
use Rattle.script_lex.specs.declared.shape.Class.TheVariants as class
use Rattle.script_lex.specs.Shape.{Text, is_in, keyword}
use Rattle.script_lex.specs.Content.{number, bytes_of_hex}

-- ---- parts of spellings

abbrev pub every : (ℕ → Bool) → Text → Bool
every passes [] = true
every passes (b ∷ z) = passes b && every passes z

-- whether the text has a first byte, and it passes
abbrev pub starts : (ℕ → Bool) → Text → Bool
starts passes [] = false
starts passes (b ∷ z) = passes b

-- each of these quotes twice
abbrev pub with_quotes_doubled : ℕ → Text → Text
with_quotes_doubled quote [] = []
with_quotes_doubled quote (b ∷ z) = if b == quote then quote ∷ quote ∷ with_quotes_doubled quote z else b ∷ with_quotes_doubled quote z

-- between two of these quotes, with each one inside doubled
abbrev pub in_quotes : ℕ → Text → Text
in_quotes quote inside = quote ∷ (with_quotes_doubled quote inside ++ quote ∷ [])

-- a letter or `_`, and letters, digits and `_`
abbrev pub IsWord : Text → Type 0
IsWord word = (starts is_ascii_digit word ≡ false) × (starts (is_in class.Word) word ≡ true) × (every (is_in class.Word) word ≡ true)

abbrev pub symbol : Kind → Option Text
symbol k.LParen = Some (codes "(")
symbol k.RParen = Some (codes ")")
symbol k.LBracket = Some (codes "[")
symbol k.RBracket = Some (codes "]")
symbol k.Comma = Some (codes ",")
symbol k.Dot = Some (codes ".")
symbol k.Assign = Some (codes "=")
symbol k.Equal = Some (codes "==")
symbol k.NotEqual = Some (codes "!=")
symbol k.Less = Some (codes "<")
symbol k.LessEqual = Some (codes "<=")
symbol k.Greater = Some (codes ">")
symbol k.GreaterEqual = Some (codes ">=")
symbol k.Plus = Some (codes "+")
symbol k.Star = Some (codes "*")
symbol k.Concat = Some (codes "||")
symbol _ = None

-- ---- tokens

-- A token of this kind that holds this is spelled so, before the text behind it. A quote that is doubled closes nothing, so no quote follows the one that does;
-- and a minus directly before a digit is a kind of its own, which holds the number of the digits behind it.
pub data Spells (kind : Kind) (content : Content) (spelling behind : Text) : Type 0 where
  Word : IsWord spelling → kind ≡ keyword spelling → content ≡ Name spelling → Spells kind content spelling behind
  QuotedName : (name : Text) → IsUtf8 name → spelling ≡ in_quotes 34 name → starts (λ b. b == 34) behind ≡ false → kind ≡ k.Quoted → content ≡ Name name
      → Spells kind content spelling behind
  QuotedText : (text : Text) → IsUtf8 text → spelling ≡ in_quotes 39 text → starts (λ b. b == 39) behind ≡ false → kind ≡ k.TextLiteral
      → content ≡ Literal (value.Text text) → Spells kind content spelling behind
  QuotedBytes : (digits : Text) → every (is_in class.Hex) digits ≡ true → length digits % 2 ≡ 0 → spelling ≡ codes "x'" ++ (digits ++ codes "'")
      → kind ≡ k.BytesLiteral → content ≡ Literal (value.Bytes (bytes_of_hex digits)) → Spells kind content spelling behind
  Digits : spelling ≢ [] → every is_ascii_digit spelling ≡ true → kind ≡ k.Number → content ≡ Number (number spelling) → Spells kind content spelling behind
  Sign : spelling ≡ codes "-" → starts is_ascii_digit behind ≡ true → kind ≡ k.Signed → content ≡ Number (number (take_while is_ascii_digit behind))
      → Spells kind content spelling behind
  Minus : spelling ≡ codes "-" → starts is_ascii_digit behind ≡ false → kind ≡ k.Minus → content ≡ Name spelling → Spells kind content spelling behind
  Symbol : symbol kind ≡ Some spelling → content ≡ Name spelling → Spells kind content spelling behind

-- some token is spelled so
pub record IsSpelled (spelling behind : Text) : Type 0 where
  pub kind : Kind
  pub content : Content
  pub spelled : Spells kind content spelling behind
