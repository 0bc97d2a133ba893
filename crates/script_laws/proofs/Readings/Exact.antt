-- The reader of the lines outside blocks, and their forms.
use Rattle.std.specs.Prelude.{◌≡◌, ◌⊎◌, ℕ, true, List, [], ◌∷◌, ◌++◌, Err}
use Rattle.script_types.specs.declared.command.Command.{Command}
use Rattle.script_types.specs.declared.command.Inside.TheVariants.{Top}
use Rattle.script_lex.specs.declared.token.Token.{Token}
use Rattle.script_lex.specs.Lex.{tokens}
use Rattle.script_tokens.specs.declared.fault.Fault.{Fault}
use Rattle.script_tokens.specs.declared.fault.Fault.TheVariants.{At}
use Rattle.script_tokens.specs.Input.{Reader, first_of, start_of}
use Rattle.script_read.specs.Line.{line_of}
use Rattle.script_laws.specs.Readings.Forms.Form.{Form}
use Rattle.script_laws.specs.Readings.Forms.Lines.{Begins}
use Rattle.script_laws.specs.Readings.Nesting.{nests}
use Rattle.script_laws.specs.Readings.Language.{form_for}
use Rattle.script_laws.proofs.Readings.Forms.Exact.{EndsAViablePrefix}

-- the reader of the lines outside blocks, by which `read_line` reads
abbrev pub outer_reader : Reader Command
outer_reader = line_of Top

-- a refused token right behind an `in` or `exists`, with the tokens before which some line of the form begins
pub record EndsInDepth (form : Form Command) (ahead : List Token) (e : Fault) : Type 0 where
  pub before : List Token
  pub word : Token
  pub after : List Token
  pub joined : ahead ≡ (before ++ word ∷ []) ++ after
  pub at : e ≡ At (first_of after).at
  pub wants : nests word.kind ≡ true
  pub begins : Begins form before

-- where a line of bytes is refused
abbrev pub IsRefused : (List Token → Fault → Type 0) → Type 0
IsRefused there = (line : List ℕ) (e : Fault) → outer_reader (start_of (tokens line)) ≡ Err e → there (tokens line) e

-- The tokens before the refused one begin some line, in whose expressions one more may nest than in those that are read.
abbrev pub RefusesNoSooner : Type 0
RefusesNoSooner = IsRefused (λ line e. EndsAViablePrefix (form_for 101 line) line e)

-- They begin a line that is read, but where a parenthesis must come next that would be nested in a hundred.
abbrev pub RefusesSoonerInDepthAlone : Type 0
RefusesSoonerInDepthAlone = IsRefused (λ line e. EndsAViablePrefix (form_for 100 line) line e ⊎ EndsInDepth (form_for 100 line) line e)
