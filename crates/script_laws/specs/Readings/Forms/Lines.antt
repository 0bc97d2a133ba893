-- What the tokens of a line say.
use Rattle.std.specs.Prelude.{◌≡◌, List, ◌++◌}
use Rattle.script_types.specs.declared.command.Command.{Command}
use Rattle.script_lex.specs.declared.kind.Kind.TheVariants as k
use Rattle.script_lex.specs.declared.token.Token.{Token}
use Rattle.script_tokens.specs.Input.{first_of}
use Rattle.script_laws.specs.Readings.Forms.Form.{Form}

-- the tokens up to the end of the line say this
pub record Says (form : Form Command) (tokens : List Token) (command : Command) : Type 0 where
  pub prefix : List Token
  pub rest : List Token
  pub joined : tokens ≡ prefix ++ rest
  pub ends : (first_of rest).kind ≡ k.LineEnd
  pub said : form prefix 0 command

-- some line of the form begins with these tokens
pub record Begins (form : Form Command) (tokens : List Token) : Type 0 where
  pub more : List Token
  pub command : Command
  pub said : form (tokens ++ more) 0 command
