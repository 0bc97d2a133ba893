-- What is written: texts in pieces, with the marks of their values.
use Rattle.std.specs.Prelude.{◌≡◌, ℕ, ◌+◌, ◌++◌, List, [], ◌∷◌, map, codes, decimal, Result, Ok, Err}
use Rattle.std.specs.List.{count_by}
use Rattle.std.specs.Str.{bytes_eq}
use Rattle.base_core.specs.declared.value.Value.{Value}
use Rattle.base_core.specs.declared.dialect.Dialect.{Dialect}
use Rattle.base_core.specs.declared.dialect.Dialect.TheVariants.{Sqlite, Postgresql, Mysql}
use Rattle.sql_text.specs.declared.writer.Compiled.{Compiled}
use Rattle.sql_text.specs.Names.{name_text, cleaned_byte}

-- a piece of a text: words as they are, a name, or the next mark under a base name with its value
pub data Piece : Type 0 where
  words : List ℕ → Piece
  name : List ℕ → Piece
  value : List ℕ → Value → Piece

-- what was written in a dialect
pub record Written : Type 0 where
  pub dialect : Dialect
  pub text : List ℕ
  -- for each mark in the order of the text, its base name, its own name and its value
  pub bases : List (List ℕ)
  pub names : List (List ℕ)
  pub values : List Value

abbrev pub nothing_written : Dialect → Written
nothing_written dialect = record { dialect = dialect; text = []; bases = []; names = []; values = [] }

-- how often a base name was used
abbrev pub uses_of : List (List ℕ) → List ℕ → ℕ
uses_of bases base = count_by (λ other. bytes_eq other base) bases

-- a mark's name: its base name and its number
abbrev pub mark_name : List ℕ → ℕ → List ℕ
mark_name base number = base ++ (codes "_" ++ decimal number)

-- the next mark under a base name counts its uses from 1
abbrev pub next_name : List (List ℕ) → List ℕ → List ℕ
next_name bases base = mark_name base (uses_of bases base + 1)

-- a mark of a name as it stands in a text
abbrev pub mark_text : Dialect → List ℕ → List ℕ
mark_text Sqlite shown = codes "?"
mark_text Postgresql shown = codes "%(" ++ (shown ++ codes ")s")
mark_text Mysql shown = codes "%s"

-- with a mark and its value at the end
abbrev pub with_mark : Written → List ℕ → List ℕ → Value → Written
with_mark w base shown v =
    record { dialect = w.dialect; text = w.text ++ mark_text w.dialect shown; bases = w.bases ++ base ∷ []; names = w.names ++ shown ∷ []; values = w.values ++ v ∷ [] }

abbrev pub with_text : Written → List ℕ → Written
with_text w text = record { dialect = w.dialect; text = w.text ++ text; bases = w.bases; names = w.names; values = w.values }

abbrev pub put_value : Written → List ℕ → Value → Written
put_value w base v = with_mark w base (next_name w.bases base) v

-- with one more piece at the end
unfoldable pub put_piece : Written → Piece → Written
put_piece w (words text) = with_text w text
put_piece w (name text) = with_text w (name_text w.dialect text)
put_piece w (value base v) = put_value w (map cleaned_byte base) v

-- with these pieces at the end
unfoldable pub put_all : Written → List Piece → Written
put_all w [] = w
put_all w (piece ∷ pieces) = put_all (put_piece w piece) pieces

-- the statement with its marks and parameters
abbrev pub compiled_statement : Written → Compiled
compiled_statement w = record { text = w.text; names = w.names; values = w.values }

-- a call wrote these pieces at the end, unless memory ran out
abbrev pub Wrote : {X E : Type 0} → List Piece → Result X E → Written → Written → Type 0
Wrote pieces (Ok x) old new = new ≡ put_all old pieces
Wrote pieces (Err e) old new = Unit {0}

-- each item's pieces with a separator before them
abbrev pub with_leading_separators : {A : Type 0} → List ℕ → (A → List Piece) → List A → List Piece
with_leading_separators separator pieces [] = []
with_leading_separators separator pieces (item ∷ items) = words separator ∷ pieces item ++ with_leading_separators separator pieces items

-- the items' pieces with a separator between each two
abbrev pub with_separators : {A : Type 0} → List ℕ → (A → List Piece) → List A → List Piece
with_separators separator pieces [] = []
with_separators separator pieces (item ∷ items) = pieces item ++ with_leading_separators separator pieces items
