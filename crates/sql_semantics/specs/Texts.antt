-- Patterns of `like`, over characters. Texts are bytes in UTF-8.
use Rattle.std.specs.Prelude.{ℕ, Bool, true, false, ◌&&◌, ◌||◌, if◌then◌else◌, ◌==◌, List, [], ◌∷◌, map}
use Rattle.std.specs.Str.{chars}
use Rattle.std.specs.Char.{to_ascii_lowercase}

-- some end of the text is accepted
abbrev pub some_end : (List ℕ → Bool) → List ℕ → Bool
some_end accepts [] = accepts []
some_end accepts (c ∷ cs) = accepts (c ∷ cs) || some_end accepts cs

-- the text begins with a character that fits, and what follows it is accepted
abbrev pub one_then : (ℕ → Bool) → (List ℕ → Bool) → List ℕ → Bool
one_then fits accepts [] = false
one_then fits accepts (c ∷ cs) = fits c && accepts cs

-- `_` stands for any character, every other one but `%` for itself
abbrev pub stands_for : ℕ → ℕ → Bool
stands_for p c = p == 95 || p == c

-- the whole text fits the pattern: `%` stands for any characters, none included
abbrev pub fits : List ℕ → List ℕ → Bool
fits [] [] = true
fits [] (c ∷ cs) = false
fits (p ∷ ps) text = if p == 37 then some_end (fits ps) text else one_then (stands_for p) (fits ps) text

-- the characters, without the case of ASCII letters
abbrev pub caseless : List ℕ → List ℕ
caseless text = map to_ascii_lowercase (chars text)

-- `text like pattern`
unfoldable pub like : List ℕ → List ℕ → Bool
like text pattern = fits (caseless pattern) (caseless text)
