use Rattle.std.proofs.Common.{◌≡◌, map, string_bytes, Result, Ok, Err}
use Rattle.clap.specs.declared.parser.matches.ArgMatches.{ArgMatches}
use Rattle.clap.specs.Words.{app_of}
use Rattle.program_words.specs.declared.options.WordsRefusal.{WordsRefusal}
use Rattle.program_words.specs.declared.options.WordsRefusal.TheVariants.{Usage}
use Rattle.program_words.proofs.Finding.{found, not_found, texts_are_utf8}
use Rattle.program_words.proofs.options.found_in.Goals as goal

same : (a : WordsRefusal) → ◌≡◌ {A = Result ArgMatches WordsRefusal} (Err a) (Err Usage) → a ≡ Usage
same a is = cc

pub returns-in-Ok-clause-ok : goal.returns-in-Ok-clause-ok
returns-in-Ok-clause-ok c =
    found (app_of c.in_ok-command.command) (map string_bytes c.args.words.now) (Ok c.in-Ok.matches) c.in_ok-command.ensures
    (texts_are_utf8 c.args.words.now) c.in-Ok.ensures.kinds c.in-Ok.ensures.matches

pub returns-in-Err-clause-usage : goal.returns-in-Err-clause-usage
returns-in-Err-clause-usage c is =
    not_found (app_of c.in_ok-command.command) (map string_bytes c.args.words.now) (Err c.in-Err.error) c.in_ok-command.ensures
    (texts_are_utf8 c.args.words.now) c.in-Err.ensures.kinds (c.refusal_by.ensures (same c.refusal_by.result is))
