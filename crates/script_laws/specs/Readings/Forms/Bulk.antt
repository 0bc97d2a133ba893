-- Bulk statements.
use Rattle.std.specs.Prelude.{ℕ, List, Option, Some, None}
use Rattle.base_core.specs.declared.value.Value.{Value}
use Rattle.script_types.specs.declared.expression.Syn.{Syn}
use Rattle.script_types.specs.declared.select.SynBulk.{SynBulk}
use Rattle.script_types.specs.declared.select.SynBulk.TheVariants as b
use Rattle.script_lex.specs.declared.kind.Kind.TheVariants as k
use Rattle.script_laws.specs.Readings.Forms.Form.{Form, ◌>>=◌, ◌>>◌, ◌<$>◌, ◌or◌, says, word, separated_list}
use Rattle.script_laws.specs.Readings.Forms.Basics.{name, names, value}
use Rattle.script_laws.specs.Readings.Forms.Expressions.{expression_to}
use Rattle.script_laws.specs.Readings.Forms.Selects.{condition}

-- `(VALUE {, VALUE})`
abbrev pub row : Form (List Value)
row = do
  word k.LParen
  found ← separated_list k.Comma value
  word k.RParen
  says found

-- `insert NAME (NAME {, NAME}) values (VALUE {, VALUE})`
abbrev pub insert : Form SynBulk
insert = do
  word k.Insert
  table ← name
  columns ← names
  word k.Values
  found ← row
  says (b.Insert table columns found)

-- The number says how many of parentheses, `not` and unary minus may nest in an expression.
module _ (most : ℕ) where
  -- `NAME = EXPR`, or `NAME = null`
  abbrev pub cell : Form (List ℕ × Option Syn)
  cell = do
    column ← name
    word k.Assign
    found ← (word k.Null >> says None) or (Some <$> expression_to most)
    says (column, found)

  -- `update NAME set NAME = EXPR {, NAME = EXPR} [where EXPR]`
  abbrev pub update : Form SynBulk
  update = do
    word k.Update
    table ← name
    word k.Set
    cells ← separated_list k.Comma cell
    filter ← condition most k.Where
    says (b.Update table cells filter)

  -- `delete NAME [where EXPR]`
  abbrev pub delete : Form SynBulk
  delete = do
    word k.Delete
    table ← name
    filter ← condition most k.Where
    says (b.Delete table filter)

  -- BULK
  abbrev pub bulk : Form SynBulk
  bulk = insert or update or delete
