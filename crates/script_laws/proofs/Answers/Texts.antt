-- The words of lines that flush are read as their commands.
use Rattle.std.proofs.Common.{◌≡◌, ℕ, None, Ok, refl}
use Rattle.std.specs.Prelude.{codes}
use Rattle.std.specs.Str as str
use lib.Utf8.{encode}
use Rattle.script_lex.specs.Content as content
use Rattle.script_lex.specs.Lex as lex
use Rattle.script_lex.specs.Shape as shape
use Rattle.script_read.specs.Line as lines
use Rattle.script_read.specs.Top as tops
use Rattle.script_tokens.specs.Input as input
use Rattle.script_types.specs.declared.command.Command.TheVariants as words
use Rattle.script_types.specs.declared.command.Inside.TheVariants.{Top}
use Rattle.script_laws.specs.Answers.Lines.{WordsAreRead}

read_so : (number : ℕ) → (lines.line (codes "flush") number Top ≡ Ok words.Flush) × (lines.line (codes "commit") number Top ≡ Ok (words.Commit None))
unfolding lines.line lines.outer lines.ends lines.line_of tops.top tops.action tops.term_command tops.bare tops.name_if_any lex.tokens lex.first_token lex.same_kind shape.keyword shape.symbol shape.token_prefix content.content content.if_utf8 input.head input.next input.second_kind input.sees input.after input.expect str.is_utf8 str.chars encode
read_so number = (refl, refl)

pub words_law : WordsAreRead
words_law desk outside = (record { outside = outside; read = (read_so _).0 }, record { outside = outside; read = (read_so _).1 })
