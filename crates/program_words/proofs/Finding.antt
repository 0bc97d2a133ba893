-- What clap answers, in the words of the program's own reading.
use Rattle.std.proofs.Common.{◌≡◌, ◌≢◌, ◌∙◌, true, false, refl, sym, ap, subst, List, [], ◌∷◌, map, Option, Some, None, Result, Ok, Err, IfOk, IfErr, inl, inr, String, string_bytes}
use Rattle.std.specs.List.{AllByRecursion}
use Rattle.std.specs.Str.{IsUtf8}
use Rattle.std.proofs.lemmas.Str.{IsUtf8-had}
use Rattle.clap.specs.Kinds.{FailsBy, HasKind, Kinds}
use Rattle.clap.specs.Words.{App, HasMatchesOf, fault_of, first_of, first_value, found_of, is_simple_and_free, kind_of}
use Rattle.clap.specs.declared.error.Error.{Error}
use Rattle.clap.specs.declared.error.kind.ErrorKind.TheVariants.{OutOfMemory}
use Rattle.clap.specs.declared.parser.matches.ArgMatches.{ArgMatches}
use Rattle.clap.proofs.WalkLemmas.{first_value-rows}
use Rattle.program_words.specs.WordsCommand.{words_command}
use Rattle.program_words.specs.Reading.{Text}
use Rattle.program_words.specs.Asked.{values_asked, values_by}
use Rattle.program_words.proofs.ReadingLemmas.{as_command, is_nothing, values_of_command}

-- texts are UTF-8
pub texts_are_utf8 : {Z : Type 0} (words : List (String Z)) → AllByRecursion IsUtf8 (map string_bytes words)
texts_are_utf8 [] = tt
texts_are_utf8 (word ∷ rest) = (IsUtf8-had (string_bytes word) word.ok, texts_are_utf8 rest)

is_simple_command : is_simple_and_free words_command ≡ true
is_simple_command = refl

-- ---- words that are taken

taken_by : (words : List Text) (m : ArgMatches) → fault_of words_command words ≡ [] → HasMatchesOf words_command words m → values_of_command words ≡ Some (values_by (first_value (found_of m)))
taken_by words m none finds =
    let rows = (finds refl).0 in
    rw none (ap Some (ap (λ (value : Text → Option Text). values_by value) (λ i name. (ap (first_of name) (sym rows) ∙ sym (first_value-rows (found_of m) name)) i)))

refused_by : (kinds : Kinds) (e : Error) → kind_of e ≢ OutOfMemory → HasKind kinds e → is_nothing kinds ≡ false
refused_by kinds e other (inl memory) = absurd (other memory)
refused_by [] e other (inr among) = absurd among
refused_by (k ∷ ks) e other (inr among) = refl

-- what is found in words is what they give
pub found : (app : App) (words : List Text) (r : Result ArgMatches Error) → app ≡ words_command → AllByRecursion IsUtf8 words → (is_simple_and_free app ≡ true → FailsBy (fault_of app words) r) → IfOk r (HasMatchesOf app words)
    → IfOk r (λ m. values_asked words ≡ Some (values_by (first_value (found_of m))))
found app words (Ok m) is utf8 fails finds =
    let none : fault_of words_command words ≡ [] = subst (λ (a : App). fault_of a words ≡ []) is (fails (ap is_simple_and_free is ∙ is_simple_command)) in
    sym (as_command words utf8) ∙ taken_by words m none (subst (λ (a : App). HasMatchesOf a words m) is finds)
found app words (Err e) is utf8 fails finds = tt

-- words that are refused, but for want of memory, are none of the program's
pub not_found : (app : App) (words : List Text) (r : Result ArgMatches Error) → app ≡ words_command → AllByRecursion IsUtf8 words → (is_simple_and_free app ≡ true → FailsBy (fault_of app words) r)
    → IfErr r (λ e. kind_of e ≢ OutOfMemory → values_asked words ≡ None)
not_found app words (Ok m) is utf8 fails = tt
not_found app words (Err e) is utf8 fails = λ other.
    let kinds : HasKind (fault_of words_command words) e = subst (λ (a : App). HasKind (fault_of a words) e) is (fails (ap is_simple_and_free is ∙ is_simple_command)) in
    sym (as_command words utf8) ∙ rw (refused_by (fault_of words_command words) e other kinds) refl
