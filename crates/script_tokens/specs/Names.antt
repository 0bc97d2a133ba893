-- Names, and lists of them.
use Rattle.std.specs.Prelude.{ℕ, Bool, true, false, not, ◌&&◌, ◌||◌, if◌then◌else◌, nat_le, List, [], ◌∷◌, length, Option, Some, None, Ok}
use Rattle.script_lex.specs.declared.kind.Kind.{Kind}
use Rattle.script_lex.specs.declared.kind.Kind.TheVariants as k
use Rattle.script_lex.specs.declared.token.Content.{Content}
use Rattle.script_lex.specs.declared.token.Content.TheVariants.{Name, Nothing, Number, Literal}
use Rattle.script_lex.specs.declared.token.Token.{Token}
use Rattle.script_tokens.specs.Input.{Input, head, next, Reader, ◌>>=◌, ◌>>◌, ◌<$>◌, pure, refuse, expect, eat, clause, comma_list}

-- a word that is no name
abbrev pub is_reserved : Kind → Bool
is_reserved k.And = true
is_reserved k.Or = true
is_reserved k.Not = true
is_reserved k.Like = true
is_reserved k.Ilike = true
is_reserved k.In = true
is_reserved k.Between = true
is_reserved k.Is = true
is_reserved k.Exists = true
is_reserved k.Null = true
is_reserved k.True = true
is_reserved k.False = true
is_reserved k.Where = true
is_reserved k.Order = true
is_reserved k.Group = true
is_reserved k.Having = true
is_reserved k.Limit = true
is_reserved k.Offset = true
is_reserved k.Join = true
is_reserved k.Left = true
is_reserved k.On = true
is_reserved k.From = true
is_reserved k.As = true
is_reserved k.With = true
is_reserved k.By = true
is_reserved k.Asc = true
is_reserved k.Desc = true
is_reserved k.Distinct = true
is_reserved _ = false

-- a symbol
abbrev pub is_symbol : Kind → Bool
is_symbol k.LParen = true
is_symbol k.RParen = true
is_symbol k.LBracket = true
is_symbol k.RBracket = true
is_symbol k.Comma = true
is_symbol k.Dot = true
is_symbol k.Assign = true
is_symbol k.Equal = true
is_symbol k.NotEqual = true
is_symbol k.Less = true
is_symbol k.LessEqual = true
is_symbol k.Greater = true
is_symbol k.GreaterEqual = true
is_symbol k.Plus = true
is_symbol k.Minus = true
is_symbol k.Star = true
is_symbol k.Concat = true
is_symbol _ = false

-- a literal, or the end of the line or of its tokens
abbrev pub is_literal : Kind → Bool
is_literal k.LineEnd = true
is_literal k.Bad = true
is_literal k.Number = true
is_literal k.Signed = true
is_literal k.TextLiteral = true
is_literal k.BytesLiteral = true
is_literal _ = false

-- all but quoted names and words that may be names
unfoldable pub is_no_name : Kind → Bool
is_no_name kind = is_reserved kind || is_symbol kind || is_literal kind

-- a name has 1 to 255 bytes
abbrev pub has_length : List ℕ → Bool
has_length name = nat_le 1 (length name) && nat_le (length name) 255

abbrev pub name_in : Bool → Content → Option (List ℕ)
name_in true (Name name) = if has_length name then Some name else None
name_in _ _ = None

-- the name that the next token is
unfoldable pub next_name : Input → Option (List ℕ)
next_name i = name_in (not (is_no_name (head i).kind)) (head i).content

abbrev pub named_by : Option (List ℕ) → Reader (List ℕ)
named_by None = refuse
named_by (Some name) = λ i. Ok (name, next i)

unfoldable pub name : Reader (List ℕ)
name = λ i. named_by (next_name i) i

-- `(a, b)`
unfoldable pub names : Reader (List (List ℕ))
names = do
  expect k.LParen
  found ← comma_list name
  expect k.RParen
  pure found
