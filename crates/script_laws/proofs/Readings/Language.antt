-- What is answered to a line of bytes, wherever it stands.
use Rattle.std.proofs.Common.{◌≡◌, ℕ, Bool, true, false, if◌then◌else◌, List, Result, Ok, Err, refl, ap, sym, subst, ◌∙◌}
use Rattle.base_core.specs.declared.refusal.Refusal.{Refusal}
use Rattle.script_types.specs.declared.command.Command.{Command}
use Rattle.script_types.specs.declared.command.Command.TheVariants.{Skip}
use Rattle.script_types.specs.declared.command.Inside.{Inside}
use Rattle.script_types.specs.declared.command.Inside.TheVariants.{Top, Table, Class}
use Rattle.script_lex.specs.Lex.{is_ignored, tokens}
use Rattle.script_tokens.specs.declared.fault.Fault.{Fault}
use Rattle.script_tokens.specs.Input.{Outcome, start_of}
use Rattle.script_read.specs.Line.{line, line_of, answer_of, refusal_of}
use Rattle.script_laws.specs.Readings.Forms.Lines.{Says}
use Rattle.script_laws.proofs.Readings.Forms.Exact.{ReadsWhatIsSaid, ReadsAllThatIsSaid}
use Rattle.script_laws.proofs.Readings.Forms.Lines.{tables_read, tables_all_read, tables_say_one_thing, classes_read, classes_all_read, classes_say_one_thing}
use Rattle.script_laws.specs.Readings.Language.{line_form, form_of_kind, TellsTheColumn, AnswersWhatIsSaid, AnswersAllThatIsSaid, SayOneThing, RefusesByColumn}
use Rattle.script_laws.proofs.Readings.Lines.{reads_what_is_said, reads_all_that_is_said, says_one_thing}
use Rattle.script_laws.proofs.Readings.Prefixes.{LongestPrefix, outer_prefix, table_prefix, class_prefix}

read_at : (inside : Inside) → ReadsWhatIsSaid (line_of inside) (line_form inside)
read_at Top = reads_what_is_said
read_at Table = tables_read
read_at Class = classes_read

all_at : (inside : Inside) → ReadsAllThatIsSaid (line_of inside) (line_form inside)
all_at Top = reads_all_that_is_said
all_at Table = tables_all_read
all_at Class = classes_all_read

pub say_one_thing : SayOneThing
say_one_thing Top = says_one_thing
say_one_thing Table = tables_say_one_thing
say_one_thing Class = classes_say_one_thing

refused_at : (inside : Inside) (bytes : List ℕ) (e : Fault) → line_of inside (start_of (tokens bytes)) ≡ Err e
    → LongestPrefix (form_of_kind inside 101 (tokens bytes)) (form_of_kind inside 100 (tokens bytes)) (tokens bytes) e
refused_at Top bytes e is = outer_prefix bytes e is
refused_at Table bytes e is = table_prefix bytes e is
refused_at Class bytes e is = class_prefix bytes e is

-- ---- answers

command_of : Command → Result Command Refusal → Command
command_of other (Ok command) = command
command_of other (Err e) = other

refusal_in : Refusal → Result Command Refusal → Refusal
refusal_in other (Ok command) = other
refusal_in other (Err e) = e

is_refused : Result Command Refusal → Type 0
is_refused (Ok command) = ⊥
is_refused (Err e) = Unit {0}

same_command : {a b : Command} → ◌≡◌ {A = Result Command Refusal} (Ok a) (Ok b) → a ≡ b
unfolding command_of
same_command {a = a} e = ap (command_of a) e

same_refusal : {a b : Refusal} → ◌≡◌ {A = Result Command Refusal} (Err a) (Err b) → a ≡ b
unfolding refusal_in
same_refusal {a = a} e = ap (refusal_in a) e

not_both : {e : Refusal} {a : Command} → ◌≡◌ {A = Result Command Refusal} (Err e) (Ok a) → ⊥
unfolding is_refused
not_both e = subst is_refused e tt

-- a line that is not skipped
answered : (bytes : List ℕ) (number : ℕ) (inside : Inside) → is_ignored bytes ≡ false → line bytes number inside ≡ answer_of number (line_of inside (start_of (tokens bytes)))
unfolding line
answered bytes number inside is = ap (λ b. if b then Ok Skip else answer_of number (line_of inside (start_of (tokens bytes)))) is

said_by : (bytes : List ℕ) (number : ℕ) (inside : Inside) (command : Command) (out : Outcome Command) → line_of inside (start_of (tokens bytes)) ≡ out
    → answer_of number out ≡ Ok command → Says (line_form inside) (tokens bytes) command
said_by bytes number inside command (Ok p) is e = read_at inside bytes command p.1 (subst (λ c. line_of inside (start_of (tokens bytes)) ≡ Ok (c, p.1)) (same_command e) is)
said_by bytes number inside command (Err f) is e = absurd (not_both e)

pub answers_what_is_said : AnswersWhatIsSaid
answers_what_is_said bytes number inside command goes e =
    said_by bytes number inside command (line_of inside (start_of (tokens bytes))) refl (sym (answered bytes number inside goes) ∙ e)

pub answers_all_that_is_said : AnswersAllThatIsSaid
answers_all_that_is_said bytes number inside command goes said =
    let read = all_at inside (tokens bytes) command said in
    answered bytes number inside goes ∙ ap (answer_of number) read.1

told_by : (bytes : List ℕ) (number : ℕ) (inside : Inside) (refusal : Refusal) (out : Outcome Command) → line_of inside (start_of (tokens bytes)) ≡ out
    → answer_of number out ≡ Err refusal → TellsTheColumn inside (tokens bytes) number refusal
told_by bytes number inside refusal (Ok p) is e = absurd (not_both (sym e))
told_by bytes number inside refusal (Err f) is e =
    let prefix = refused_at inside bytes f is in
    record {
      before = prefix.before;
      after = prefix.after;
      joined = prefix.joined;
      stands = prefix.stands;
      told = sym (same_refusal e) ∙ ap (refusal_of number) prefix.at;
      begins = prefix.begins;
      stops = prefix.stops;
      stops_deeper = prefix.stops_deeper;
    }

refused_by : (bytes : List ℕ) (number : ℕ) (inside : Inside) (refusal : Refusal) (b : Bool)
    → ◌≡◌ {A = Result Command Refusal} (if b then Ok Skip else answer_of number (line_of inside (start_of (tokens bytes)))) (Err refusal) → TellsTheColumn inside (tokens bytes) number refusal
refused_by bytes number inside refusal true e = absurd (not_both (sym e))
refused_by bytes number inside refusal false e = told_by bytes number inside refusal (line_of inside (start_of (tokens bytes))) refl e

pub refuses_by_column : RefusesByColumn
unfolding line
refuses_by_column bytes number inside refusal e = refused_by bytes number inside refusal (is_ignored bytes) e
