-- The tokens of a line.
use Rattle.std.specs.Prelude.{ℕ, zero, suc, ◌+◌, ◌-◌, Bool, true, ◌||◌, if◌then◌else◌, ◌==◌, List, [], ◌∷◌, Option, Some, None}
use denote.Enum.Bare.{sameb}
use Rattle.script_lex.specs.contracts.kind.Kind.{the_type}
use Rattle.script_lex.specs.declared.kind.Kind.{Kind}
use Rattle.script_lex.specs.declared.kind.Kind.TheVariants as k
use Rattle.script_lex.specs.declared.token.Content.{Content}
use Rattle.script_lex.specs.declared.token.Content.TheVariants.{Nothing}
use Rattle.script_lex.specs.declared.token.Token.{Token}
use Rattle.script_lex.specs.Shape.{Text, token_prefix}
use Rattle.script_lex.specs.Content.{content}

-- `==` on kinds
unfoldable pub same_kind : Kind → Kind → Bool
same_kind = sameb the_type

-- a byte that stands between tokens
abbrev pub is_blank : ℕ → Bool
is_blank b = b == 32 || b == 9

-- a line of blanks alone, or one whose first other byte is `#`
abbrev pub is_ignored : Text → Bool
is_ignored [] = true
is_ignored (b ∷ z) = if is_blank b then is_ignored z else b == 35

abbrev pub token_or_bad : ℕ → Kind → ℕ → Option Content → Token × ℕ
token_or_bad at kind len None = (record { kind = k.Bad; content = Nothing; at = at }, 1)
token_or_bad at kind len (Some content) = (record { kind = kind; content = content; at = at }, len)

-- The first token of a text that begins with no blank, and its length. Its kind is `Bad` where no token begins there.
unfoldable pub first_token : ℕ → Text → Token × ℕ
first_token at z = token_or_bad at (token_prefix z).0 (token_prefix z).1 (content (token_prefix z).0 (token_prefix z).1 z)

-- the tokens of a text that begins at the place, with the bytes that are left of a token that was cut
abbrev pub tokens_from : ℕ → ℕ → Text → List Token
tokens_from left at [] = record { kind = k.LineEnd; content = Nothing; at = at } ∷ []
tokens_from (suc left) at (b ∷ z) = tokens_from left (at + 1) z
tokens_from zero at (b ∷ z) =
    if is_blank b then tokens_from 0 (at + 1) z
    else (let t = first_token at (b ∷ z) in if same_kind t.0.kind k.Bad then t.0 ∷ [] else t.0 ∷ tokens_from (t.1 - 1) (at + 1) z)

-- The tokens of a line in their order. The last one is the end of the line, or `Bad` at the first byte that begins no token.
unfoldable pub tokens : Text → List Token
tokens line = tokens_from 0 0 line
