-- Literals, and lists of them.
use Rattle.std.specs.Prelude.{ℕ, ◌^◌, pos, neg_ℤ, Bool, true, false, if◌then◌else◌, nat_lt, nat_le, List, [], ◌∷◌, Option, Some, None, Ok}
use Rattle.base_core.specs.declared.value.Value.{Value}
use Rattle.base_core.specs.declared.value.Value.TheVariants as v
use Rattle.script_lex.specs.declared.kind.Kind.{Kind}
use Rattle.script_lex.specs.declared.kind.Kind.TheVariants as k
use Rattle.script_lex.specs.declared.token.Content.{Content}
use Rattle.script_lex.specs.declared.token.Content.TheVariants.{Name, Nothing, Number, Literal}
use Rattle.script_lex.specs.Lex.{same_kind}
use Rattle.script_tokens.specs.Input.{Input, head, kind, next, Reader, ◌>>=◌, ◌>>◌, ◌<$>◌, pure, refuse, expect, eat, peek, comma_list}

-- a number without a minus
abbrev pub positive : ℕ → Option Value
positive n = if nat_lt n (2 ^ 63) then Some (v.Int (pos n)) else None

-- a number with one
abbrev pub negative : ℕ → Option Value
negative n = if nat_le n (2 ^ 63) then Some (v.Int (neg_ℤ (pos n))) else None

abbrev pub number_by : Kind → ℕ → Option Value
number_by k.Number n = positive n
number_by k.Signed n = negative n
number_by _ n = None

abbrev pub quoted_by : Kind → Value → Option Value
quoted_by k.TextLiteral found = Some found
quoted_by k.BytesLiteral found = Some found
quoted_by _ found = None

abbrev pub truth_by : Kind → Option Value
truth_by k.True = Some (v.Bool true)
truth_by k.False = Some (v.Bool false)
truth_by _ = None

-- the value of a literal that begins with a token of this kind and content
abbrev pub literal_in : Kind → Content → Option Value
literal_in kind (Number n) = number_by kind n
literal_in kind (Literal found) = quoted_by kind found
literal_in kind (Name word) = truth_by kind
literal_in kind Nothing = None

unfoldable pub next_literal : Input → Option Value
next_literal i = literal_in (head i).kind (head i).content

-- a number with a minus is two tokens
unfoldable pub past_literal : Input → Input
past_literal i = if same_kind (kind i) k.Signed then next (next i) else next i

abbrev pub literal_by : Option Value → Reader Value
literal_by None = refuse
literal_by (Some found) = λ i. Ok (found, past_literal i)

unfoldable pub literal : Reader Value
literal = λ i. literal_by (next_literal i) i

abbrev pub begins_literal : Kind → Bool
begins_literal k.Number = true
begins_literal k.Signed = true
begins_literal k.TextLiteral = true
begins_literal k.BytesLiteral = true
begins_literal k.True = true
begins_literal k.False = true
begins_literal _ = false

abbrev pub whole_number : Kind → Content → Option ℕ
whole_number k.Number (Number n) = if nat_lt n (2 ^ 63) then Some n else None
whole_number _ _ = None

abbrev pub int_by : Option ℕ → Reader ℕ
int_by None = refuse
int_by (Some n) = λ i. Ok (n, next i)

-- a number without a minus, within 64 bits
unfoldable pub int : Reader ℕ
int = λ i. int_by (whole_number (head i).kind (head i).content) i

-- `null`, or a literal
unfoldable pub value : Reader Value
value = do
  is_null ← eat k.Null
  if is_null then pure v.Null else literal

unfoldable pub literals : Reader (List Value)
literals = comma_list literal

unfoldable pub values : Reader (List Value)
values = comma_list value
