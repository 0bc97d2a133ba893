-- The words after the program's name, read one by one.
use Rattle.std.specs.Prelude.{◌==◌, ◌&&◌, ◌||◌, ℕ, Bool, true, not, List, [], ◌∷◌, ◌++◌, Option, None, Some, is_some, if◌then◌else◌, codes, option_and_then}
use Rattle.std.specs.List.{list_any}
use Rattle.std.specs.Str.{bytes_eq}
use Rattle.clap.specs.Lexer.{long_of}

abbrev pub Text : Type 0
Text = List ℕ

-- an option that was given: its name, and its value
abbrev pub Given : Type 0
Given = Text × Text

-- where the next word stands
pub data Place : Type 0 where
  -- where an option may begin
  AnOption : Place
  -- behind the option of this name, whose value it is
  AValue : Text → Place
  -- behind `--`
  TheEnd : Place

-- the options that were given so far, and where the next word stands
abbrev pub Reading : Type 0
Reading = List Given × Place

abbrev pub is_given : Text → List Given → Bool
is_given name = list_any (λ given. bytes_eq given.0 name)

-- an option with its value, or with the value in the next word
abbrev pub valued : List Given → Text → Option Text → Reading
valued uses name (Some value) = (uses ++ (name, value) ∷ [], AnOption)
valued uses name None = (uses, AValue name)

abbrev pub takes_value : Text → Bool
takes_value name = bytes_eq (codes "dialect") name || bytes_eq (codes "store") name

-- a flag, which has no value
abbrev pub flagged : List Given → Text → Option Text → Option Reading
flagged uses name value =
    if bytes_eq (codes "echo") name && not (is_some value) then Some (uses ++ (name, codes "true") ∷ [], AnOption) else None

-- `--name` or `--name=value`, an option that was not given yet
abbrev pub option_read : List Given → Text → Option Text → Option Reading
option_read uses name value =
    if is_given name uses then None
    else (if takes_value name then Some (valued uses name value) else flagged uses name value)

abbrev pub option_word_read : List Given → Option (Text × Option Text) → Option Reading
option_word_read uses None = None
option_word_read uses (Some option) = option_read uses option.0 option.1

-- a word that begins with `-` (45) is no value, but for `-` itself
abbrev pub is_value : Text → Bool
is_value [] = true
is_value (x ∷ []) = true
is_value (x ∷ y ∷ rest) = not (x == 45)

-- a word is read
abbrev pub word_read : Place → List Given → Text → Option Reading
word_read AnOption uses word =
    if bytes_eq word (codes "--") then Some (uses, TheEnd) else option_word_read uses (long_of word)
word_read (AValue name) uses word = if is_value word then Some (uses ++ (name, word) ∷ [], AnOption) else None
word_read TheEnd uses word = None

-- no word is left, and no value is missing
abbrev pub uses_at_end : Place → List Given → Option (List Given)
uses_at_end (AValue name) uses = None
uses_at_end place uses = Some uses

-- the words from here on are read; none where one is refused
unfoldable pub words_read : Place → List Given → List Text → Option (List Given)
words_read place uses [] = uses_at_end place uses
words_read place uses (word ∷ rest) =
    option_and_then (λ (reading : Reading). words_read reading.1 reading.0 rest) (word_read place uses word)
