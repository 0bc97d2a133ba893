use Rattle.std.proofs.Common.{◌≡◌, ℕ, List, ◌∙◌, refl}
use Rattle.std.specs.List.{list_any}
use Rattle.std.specs.Str.{bytes_eq}
use Rattle.sql_text.specs.Names.{is_reserved, words_to_quote}
use Rattle.sql_text.specs.declared.names.TheConstants.{RESERVED}
use Rattle.sql_text.proofs.names.is_reserved.Goals as goal

-- the words of the code are those of the definition
same_words : (name : List ℕ) → list_any (λ word. bytes_eq word.now name) RESERVED ≡ is_reserved name
unfolding is_reserved words_to_quote
same_words name = refl

pub returns : goal.returns
returns c = c.has_word.ensures ∙ same_words c.args.name.now
