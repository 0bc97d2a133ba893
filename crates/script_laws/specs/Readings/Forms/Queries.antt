-- Queries for objects.
use Rattle.std.specs.Prelude.{ℕ, Bool, true, false, List, []}
use Rattle.script_types.specs.declared.select.SynQuery.{SynQuery}
use Rattle.script_lex.specs.declared.kind.Kind.TheVariants as k
use Rattle.script_laws.specs.Readings.Forms.Form.{Form, ◌>>=◌, ◌>>◌, ◌or◌, says, word, separated_list}
use Rattle.script_laws.specs.Readings.Forms.Basics.{name}
use Rattle.script_laws.specs.Readings.Forms.Expressions.{many}
use Rattle.script_laws.specs.Readings.Forms.Selects.{condition, order, int_after}

-- `NAME.NAME`
abbrev pub pair : Form (List ℕ × List ℕ)
pair = do
  first ← name
  word k.Dot
  second ← name
  says (first, second)

-- whether the relationship is loaded by a join: `joined`, or `selectin`
abbrev pub manner : Form Bool
manner = (word k.Joined >> says true) or (word k.Selectin >> says false)

-- OPT: `joined NAME.NAME`, or `selectin NAME.NAME`
abbrev pub option : Form (Bool × List ℕ × List ℕ)
option = do
  joined ← manner
  path ← pair
  says (joined, path.0, path.1)

-- `with OPT {, OPT}`, or nothing
abbrev pub options : Form (List (Bool × List ℕ × List ℕ))
options = (word k.With >> separated_list k.Comma option) or says []

-- OSELECT: `NAME {join NAME.NAME} [where EXPR] ORDER [limit INT] [offset INT] [with OPT {, OPT}]`, where so many of parentheses, `not` and unary minus may nest in an expression
abbrev pub query : ℕ → Form SynQuery
query most = do
  class ← name
  joins ← many (word k.Join >> pair)
  filter ← condition most k.Where
  ordered ← order most
  limit ← int_after k.Limit
  offset ← int_after k.Offset
  loads ← options
  says (record { class = class; joins = joins; filter = filter; order = ordered; limit = limit; offset = offset; options = loads })
