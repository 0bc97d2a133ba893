-- The tokens of a line, by what tokens are spelled as.
use Rattle.std.specs.Prelude.{◌≡◌, ℕ, ◌+◌, ◌≤◌, true, false, List, [], ◌∷◌, ◌++◌, length}
use Rattle.script_lex.specs.declared.kind.Kind.{Kind}
use Rattle.script_lex.specs.declared.kind.Kind.TheVariants as k
use Rattle.script_lex.specs.declared.token.Content.{Content}
use Rattle.script_lex.specs.declared.token.Token.{Token}
use Rattle.script_lex.specs.Shape.{Text}
use Rattle.script_lex.specs.Content.{undouble}
use Rattle.script_lex.specs.Lex.{is_blank, tokens}
use Rattle.script_laws.specs.Readings.Tokens.Spelling.{every, with_quotes_doubled, Spells, IsSpelled}

-- The token that a text begins with is the longest prefix of it that is spelled.
pub record IsFirst (kind : Kind) (content : Content) (spelling behind : Text) : Type 0 where
  pub spelled : Spells kind content spelling behind
  pub longest : (other rest : Text) → spelling ++ behind ≡ other ++ rest → IsSpelled other rest → length other ≤ length spelling

abbrev pub BeginsNoToken : Text → Type 0
BeginsNoToken text = (spelling behind : Text) → text ≡ spelling ++ behind → IsSpelled spelling behind → ⊥

-- behind blanks alone, the next token of a text that begins at this place of the line
pub record IsNext (at : ℕ) (text : Text) (t : Token) : Type 0 where
  pub blanks : Text
  pub spelling : Text
  pub behind : Text
  pub joined : text ≡ blanks ++ (spelling ++ behind)
  pub blank : every is_blank blanks ≡ true
  pub placed : t.at ≡ at + length blanks
  pub first : IsFirst t.kind t.content spelling behind

-- behind blanks alone, the end of the line, or a byte that begins no token
pub data Ends (at : ℕ) (text : Text) (last : Token) : Type 0 where
  LineEnd : every is_blank text ≡ true → last.kind ≡ k.LineEnd → last.at ≡ at + length text → Ends at text last
  Fault : (blanks : Text) (b : ℕ) (behind : Text) → text ≡ blanks ++ b ∷ behind → every is_blank blanks ≡ true → is_blank b ≡ false → BeginsNoToken (b ∷ behind)
      → last.kind ≡ k.Bad → last.at ≡ at + length blanks → Ends at text last

-- These tokens stand one behind the other, and the last one behind them.
abbrev pub AreTokens : ℕ → Text → List Token → Token → Type 0
AreTokens at text [] last = Ends at text last
AreTokens at text (t ∷ ts) last = (next : IsNext at text t) × AreTokens (t.at + length next.spelling) next.behind ts last

-- What is cut of a line are its tokens and its end, or the first byte that begins none.
abbrev pub CutsTokens : Type 0
CutsTokens = (line : Text) → (found : List Token) × (last : Token) × (tokens line ≡ found ++ last ∷ []) × AreTokens 0 line found last

-- No others are; what a byte that begins no token holds has no meaning.
abbrev pub CutsAllTokens : Type 0
CutsAllTokens =
    (line : Text) (found : List Token) (last : Token) → AreTokens 0 line found last
    → (end : Token) × (tokens line ≡ found ++ end ∷ []) × (end.kind ≡ last.kind) × (end.at ≡ last.at)

-- Undoubling quotes undoes doubling them.
abbrev pub UndoublingUndoesDoubling : Type 0
UndoublingUndoesDoubling = (quote : ℕ) (text : Text) → undouble quote false (with_quotes_doubled quote text) ≡ text
