-- Which lines only compile, and the end of a block whose lines are skipped.
use Rattle.std.specs.Prelude.{ℕ, Bool, true, false, ◌&&◌, if◌then◌else◌, List, [], ◌∷◌, take, drop, codes}
use Rattle.std.specs.List.{list_all}
use Rattle.std.specs.Str.{bytes_eq}
use Rattle.script_lex.specs.Lex.{is_blank}
use Rattle.script_types.specs.declared.command.Command.{Command}
use Rattle.script_types.specs.declared.command.Command.TheVariants as line

-- the line only compiles
abbrev pub is_compiled : Command → Bool
is_compiled (line.CompileRows dialect select) = true
is_compiled (line.CompileObjects dialect query) = true
is_compiled (line.CompileBulk dialect statement) = true
is_compiled (line.CompileTable dialect name) = true
is_compiled other = false

-- the word `end`, and then blanks alone
abbrev pub is_end_text : List ℕ → Bool
is_end_text text = bytes_eq (take 3 text) (codes "end") && list_all is_blank (drop 3 text)

-- the line is the one word `end`, with blanks around it
abbrev pub is_end : List ℕ → Bool
is_end [] = false
is_end (b ∷ rest) = if is_blank b then is_end rest else is_end_text (b ∷ rest)
