-- Names, literals, and the names that a script binds.
use Rattle.std.specs.Prelude.{◌≡◌, ◌≢◌, ℕ, ◌^◌, nat_lt, Bool, true, false, List, [], ◌∷◌, Some}
use Rattle.base_core.specs.declared.value.Value.{Value}
use Rattle.base_core.specs.declared.value.Value.TheVariants as v
use Rattle.script_types.specs.declared.command.Term.{Term}
use Rattle.script_lex.specs.declared.kind.Kind.{Kind}
use Rattle.script_lex.specs.declared.kind.Kind.TheVariants as k
use Rattle.script_lex.specs.declared.token.Content.TheVariants as content
use Rattle.script_lex.specs.declared.token.Token.{Token}
use Rattle.script_tokens.specs.Names.{is_no_name, has_length}
use Rattle.script_tokens.specs.Literals.{literal_in}
use Rattle.script_laws.specs.Readings.Forms.Form.{Form, ◌>>=◌, ◌>>◌, ◌or◌, says, word, maybe, separated_list}

-- a name that is none of these words: a quoted name, or a word that may be one, of 1 to 255 bytes
abbrev pub name_but : (Kind → Bool) → Form (List ℕ)
name_but excluded tokens count bytes =
    (t : Token) × (tokens ≡ t ∷ []) × (excluded t.kind ≡ false) × (is_no_name t.kind ≡ false) × (t.content ≡ content.Name bytes) × (has_length bytes ≡ true) × (count ≡ 0)

abbrev pub no_words : Kind → Bool
no_words kind = false

-- NAME
abbrev pub name : Form (List ℕ)
name = name_but no_words

-- `(NAME {, NAME})`
abbrev pub names : Form (List (List ℕ))
names = do
  word k.LParen
  found ← separated_list k.Comma name
  word k.RParen
  says found

-- one token that is a literal
abbrev pub plain_literal : Form Value
plain_literal tokens count value = (t : Token) × (tokens ≡ t ∷ []) × (t.kind ≢ k.Signed) × (literal_in t.kind t.content ≡ Some value) × (count ≡ 0)

-- a minus directly before digits, which are a token of their own
abbrev pub signed_literal : Form Value
signed_literal tokens count value =
    (t : Token) × (digits : Token) × (tokens ≡ t ∷ digits ∷ []) × (t.kind ≡ k.Signed) × (literal_in t.kind t.content ≡ Some value) × (count ≡ 0)

-- LIT: a number, text, bytes, `true` or `false`
abbrev pub literal : Form Value
literal = plain_literal or signed_literal

-- VALUE: a literal or `null`
abbrev pub value : Form Value
value = (word k.Null >> says v.Null) or literal

-- INT: a number without a minus, within 64 bits with a sign
abbrev pub int : Form ℕ
int tokens count n = (t : Token) × (tokens ≡ t ∷ []) × (t.kind ≡ k.Number) × (t.content ≡ content.Number n) × (nat_lt n (2 ^ 63) ≡ true) × (count ≡ 0)

-- TERM: `NAME` or `NAME[INT]`
abbrev pub term : Form Term
term = do
  called ← name
  place ← maybe (do word k.LBracket; n ← int; word k.RBracket; says n)
  says (record { name = called; index = place })
