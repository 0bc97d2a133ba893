-- Lines that bind a name.
use Rattle.std.specs.Prelude.{ℕ, List, []}
use Rattle.base_core.specs.declared.value.Value.{Value}
use Rattle.script_types.specs.declared.command.Command.{Command}
use Rattle.script_types.specs.declared.command.Command.TheVariants as c
use Rattle.script_types.specs.declared.command.Term.{Term}
use Rattle.script_lex.specs.declared.kind.Kind.TheVariants as k
use Rattle.script_laws.specs.Readings.Forms.Form.{Form, ◌>>=◌, ◌>>◌, ◌<$>◌, ◌or◌, says, word, separated_list}
use Rattle.script_laws.specs.Readings.Forms.Basics.{name, literal, value, term}
use Rattle.script_laws.specs.Readings.Forms.Queries.{query}

-- `TERM.NAME`
abbrev pub member : Form (Term × List ℕ)
member = do
  owner ← term
  word k.Dot
  called ← name
  says (owner, called)

-- `NAME = VALUE`
abbrev pub cell : Form (List ℕ × Value)
cell = do
  attribute ← name
  word k.Assign
  found ← value
  says (attribute, found)

-- `new NAME [NAME = VALUE {, NAME = VALUE}]`
abbrev pub new : List ℕ → Form Command
new bound = do
  word k.New
  class ← name
  cells ← separated_list k.Comma cell or says []
  says (c.New bound class cells)

-- `get NAME (LIT {, LIT})`
abbrev pub get : List ℕ → Form Command
get bound = do
  word k.Get
  class ← name
  word k.LParen
  key ← separated_list k.Comma literal
  word k.RParen
  says (c.Get bound class key)

-- `objects OSELECT`
abbrev pub objects : ℕ → List ℕ → Form Command
objects most bound = word k.Objects >> c.Objects bound <$> query most

-- `related TERM.NAME`
abbrev pub related_object : List ℕ → Form Command
related_object bound = do
  word k.Related
  found ← member
  says (c.Related bound found.0 found.1)

-- `begin_nested`
abbrev pub begin_nested : List ℕ → Form Command
begin_nested bound = word k.BeginNested >> says (c.BeginNested bound)

-- what a name is bound to
abbrev pub bound_to : ℕ → List ℕ → Form Command
bound_to most bound = new bound or get bound or objects most bound or related_object bound or begin_nested bound

-- `NAME =` and one of these, where so many of parentheses, `not` and unary minus may nest in an expression
abbrev pub binding_line : ℕ → Form Command
binding_line most = do
  bound ← name
  word k.Assign
  bound_to most bound
