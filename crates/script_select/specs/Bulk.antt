-- Bulk statements.
use Rattle.std.specs.Prelude.{ℕ, zero, suc, Bool, true, false, if◌then◌else◌, List, [], ◌∷◌, Option, Some, None, Ok}
use Rattle.base_core.specs.declared.value.Value.{Value}
use Rattle.script_types.specs.declared.expression.Syn.{Syn}
use Rattle.script_types.specs.declared.select.SynBulk.{SynBulk}
use Rattle.script_types.specs.declared.select.SynBulk.TheVariants.{Insert, Update, Delete}
use Rattle.script_lex.specs.declared.kind.Kind.{Kind}
use Rattle.script_lex.specs.declared.kind.Kind.TheVariants as k
use Rattle.script_tokens.specs.Input.{Reader, ◌>>=◌, ◌>>◌, ◌<$>◌, pure, refuse, peek, take_token, eat, expect, comma_list}
use Rattle.script_tokens.specs.Names.{name, names}
use Rattle.script_tokens.specs.Literals.{values}
use Rattle.script_expr.specs.Expr.{whole}
use Rattle.script_select.specs.Select.{condition}

-- `null`, or an expression
unfoldable pub null_or_expression : Reader (Option Syn)
null_or_expression = do
  is_null ← eat k.Null
  if is_null then pure None else Some <$> whole

-- `name = value`
unfoldable pub cell : Reader (List ℕ × Option Syn)
cell = do
  column ← name
  expect k.Assign
  value ← null_or_expression
  pure (column, value)

unfoldable pub cells : Reader (List (List ℕ × Option Syn))
cells = comma_list cell

-- values with commas between, in parentheses
unfoldable pub row : Reader (List Value)
row = do
  expect k.LParen
  found ← values
  expect k.RParen
  pure found

-- after `insert`
unfoldable pub insert : Reader SynBulk
insert = do
  table ← name
  columns ← names
  expect k.Values
  found ← row
  pure (Insert table columns found)

-- after `update`
unfoldable pub update : Reader SynBulk
update = do
  table ← name
  expect k.Set
  found ← cells
  filter ← condition k.Where
  pure (Update table found filter)

-- after `delete`
unfoldable pub delete : Reader SynBulk
delete = do
  table ← name
  filter ← condition k.Where
  pure (Delete table filter)

abbrev pub bulk_by : Kind → Reader SynBulk
bulk_by k.Insert = take_token >> insert
bulk_by k.Update = take_token >> update
bulk_by k.Delete = take_token >> delete
bulk_by _ = refuse

unfoldable pub bulk : Reader SynBulk
bulk = peek >>= bulk_by
