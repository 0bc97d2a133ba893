-- What is answered to a line of bytes, wherever it stands.
use Rattle.std.specs.Prelude.{◌≡◌, ◌≢◌, ◌⊎◌, ℕ, ◌≤◌, Bool, true, false, List, [], ◌∷◌, ◌++◌, length, drop, Ok, Err}
use Rattle.base_core.specs.declared.refusal.Refusal.{Refusal}
use Rattle.base_core.specs.declared.refusal.Refusal.TheVariants.{ScriptError}
use Rattle.script_types.specs.declared.command.Command.{Command}
use Rattle.script_types.specs.declared.command.Inside.{Inside}
use Rattle.script_types.specs.declared.command.Inside.TheVariants.{Top, Table, Class}
use Rattle.script_lex.specs.declared.kind.Kind.TheVariants as k
use Rattle.script_lex.specs.declared.token.Token.{Token}
use Rattle.script_lex.specs.Lex.{is_ignored, same_kind, tokens}
use Rattle.script_tokens.specs.Input.{first_of}
use Rattle.script_read.specs.Line.{line, column}
use Rattle.script_laws.specs.Readings.Forms.Form.{Form}
use Rattle.script_laws.specs.Readings.Forms.Lines.{Says, Begins}
use Rattle.script_laws.specs.Readings.Forms.TableLines.{table_line}
use Rattle.script_laws.specs.Readings.Forms.ClassLines.{class_line}
use Rattle.script_laws.specs.Readings.Forms.Bindings.{binding_line}
use Rattle.script_laws.specs.Readings.Forms.TopLines.{top_line, outer_line}
use Rattle.script_laws.specs.Readings.Nesting.{nests}

-- the form of the lines that stand there
abbrev pub line_form : Inside → Form Command
line_form Top = outer_line 100
line_form Table = table_line
line_form Class = class_line

-- whether the second token is `=`
abbrev pub binds : List Token → Bool
binds line = same_kind (first_of (drop 1 line)).kind k.Assign

-- lines that bind a name, or those that do not, in whose expressions so many may nest
abbrev pub binding_or_other : Bool → ℕ → Form Command
binding_or_other true most = binding_line most
binding_or_other false most = top_line most

-- the form of the lines of this one's kind: a line that is refused is held against these alone
abbrev pub form_for : ℕ → List Token → Form Command
form_for most line = binding_or_other (binds line) most

-- the form of the lines that stand there and are of this one's kind, in whose expressions so many may nest
abbrev pub form_of_kind : Inside → ℕ → List Token → Form Command
form_of_kind Top most line = form_for most line
form_of_kind Table most line = table_line
form_of_kind Class most line = class_line

-- tokens that end with an `in` or `exists`, with those before which some line of the form begins
pub record EndDeep (form : Form Command) (tokens : List Token) : Type 0 where
  pub earlier : List Token
  pub word : Token
  pub joined : tokens ≡ earlier ++ word ∷ []
  pub wants : nests word.kind ≡ true
  pub begins : Begins form earlier

-- Some line of this one's kind begins with these tokens; or one does with those before the `in` or `exists` that ends them, and with all of them only one in
-- which one more may nest.
abbrev pub BeginOne : Inside → List Token → List Token → Type 0
BeginOne inside line tokens =
    Begins (form_of_kind inside 100 line) tokens ⊎ (EndDeep (form_of_kind inside 100 line) tokens × Begins (form_of_kind inside 101 line) tokens)

-- some line of the form begins with these tokens and this one, and no token behind it stands at its place
pub record GoesOn (form : Form Command) (tokens : List Token) (t : Token) : Type 0 where
  pub more : List Token
  pub command : Command
  pub said : form ((tokens ++ t ∷ []) ++ more) 0 command
  pub apart : (before after : List Token) (u : Token) → more ≡ before ++ u ∷ after → u.at ≢ t.at

-- The column of a token, which stands one past the longest prefix of the line with which some line of its kind begins: such a line begins with the tokens
-- before it, and none begins with these and the token itself; where this is an `in` or `exists`, not even one in which one more may nest.
pub record TellsTheColumn (inside : Inside) (line : List Token) (number : ℕ) (refusal : Refusal) : Type 0 where
  pub before : List Token
  pub after : List Token
  pub joined : line ≡ before ++ after
  pub stands : 1 ≤ length after
  pub told : refusal ≡ ScriptError number (column (first_of after).at)
  pub begins : BeginOne inside line before
  pub stops : Begins (form_of_kind inside 100 line) (before ++ first_of after ∷ []) → ⊥
  pub stops_deeper : nests (first_of after).kind ≡ true → GoesOn (form_of_kind inside 101 line) before (first_of after) → ⊥

-- The command that is answered to a line, which is neither blank nor a comment, is what its tokens say.
abbrev pub AnswersWhatIsSaid : Type 0
AnswersWhatIsSaid = (bytes : List ℕ) (number : ℕ) (inside : Inside) (command : Command) → is_ignored bytes ≡ false → line bytes number inside ≡ Ok command
    → Says (line_form inside) (tokens bytes) command

-- What its tokens say is answered.
abbrev pub AnswersAllThatIsSaid : Type 0
AnswersAllThatIsSaid = (bytes : List ℕ) (number : ℕ) (inside : Inside) (command : Command) → is_ignored bytes ≡ false → Says (line_form inside) (tokens bytes) command
    → line bytes number inside ≡ Ok command

-- The tokens of a line say one command at most.
abbrev pub SayOneThing : Type 0
SayOneThing = (inside : Inside) (line : List Token) (c d : Command) → Says (line_form inside) line c → Says (line_form inside) line d → c ≡ d

-- A refusal tells the number of the line and the column of the token at which no line of this kind goes on.
abbrev pub RefusesByColumn : Type 0
RefusesByColumn = (bytes : List ℕ) (number : ℕ) (inside : Inside) (refusal : Refusal) → line bytes number inside ≡ Err refusal → TellsTheColumn inside (tokens bytes) number refusal
