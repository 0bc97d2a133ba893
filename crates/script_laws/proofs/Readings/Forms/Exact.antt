-- A reader of lines and the forms of those lines.
use Rattle.std.specs.Prelude.{◌≡◌, ℕ, List, ◌++◌, Ok, Err}
use Rattle.script_types.specs.declared.command.Command.{Command}
use Rattle.script_types.specs.declared.command.Inside.TheVariants.{Table, Class}
use Rattle.script_lex.specs.declared.token.Token.{Token}
use Rattle.script_tokens.specs.declared.fault.Fault.{Fault}
use Rattle.script_tokens.specs.declared.fault.Fault.TheVariants.{At}
use Rattle.script_tokens.specs.Input.{Input, Reader, first_of, start_of}
use Rattle.script_read.specs.Line.{line_of}
use Rattle.script_lex.specs.Lex.{tokens}
use Rattle.script_laws.specs.Readings.Forms.Form.{Form}
use Rattle.script_laws.specs.Readings.Forms.Lines.{Says, Begins}

-- a refused token, the tokens before which begin some line
pub record EndsAViablePrefix (form : Form Command) (line : List Token) (e : Fault) : Type 0 where
  pub before : List Token
  pub after : List Token
  pub joined : line ≡ before ++ after
  pub at : e ≡ At (first_of after).at
  pub begins : Begins form before

-- What is read of a line of bytes is what its tokens say.
abbrev pub ReadsWhatIsSaid : Reader Command → Form Command → Type 0
ReadsWhatIsSaid p form = (line : List ℕ) (command : Command) (left : Input) → p (start_of (tokens line)) ≡ Ok (command, left) → Says form (tokens line) command

-- What the tokens of a line say is read.
abbrev pub ReadsAllThatIsSaid : Reader Command → Form Command → Type 0
ReadsAllThatIsSaid p form = (line : List Token) (command : Command) → Says form line command → (left : Input) × (p (start_of line) ≡ Ok (command, left))

-- The tokens of a line say one command at most.
abbrev pub SaysOneThing : Form Command → Type 0
SaysOneThing form = (line : List Token) (c d : Command) → Says form line c → Says form line d → c ≡ d

-- A refused token stands behind tokens with which some line begins.
abbrev pub RefusesNoSooner : Reader Command → Form Command → Type 0
RefusesNoSooner p form = (line : List ℕ) (e : Fault) → p (start_of (tokens line)) ≡ Err e → EndsAViablePrefix form (tokens line) e

-- the readers of the lines of blocks, by which `read_line` reads
abbrev pub table_reader : Reader Command
table_reader = line_of Table

abbrev pub class_reader : Reader Command
class_reader = line_of Class
