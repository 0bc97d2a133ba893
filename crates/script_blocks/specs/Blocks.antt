-- Lines of the block of a table.
use Rattle.std.specs.Prelude.{ℕ, Bool, true, false, if◌then◌else◌, List, [], ◌∷◌, Option, Some, None, Ok, Err}
use Rattle.script_types.specs.declared.command.Command.{Command}
use Rattle.script_types.specs.declared.command.Command.TheVariants as c
use Rattle.script_lex.specs.declared.kind.Kind.{Kind}
use Rattle.script_lex.specs.declared.kind.Kind.TheVariants as k
use Rattle.script_tokens.specs.Input.{Reader, ◌>>=◌, ◌>>◌, ◌<$>◌, pure, refuse, peek, take_token, eat, expect, clause, sees, comma_list}
use Rattle.script_tokens.specs.Names.{name, names}
use Rattle.script_tokens.specs.Literals.{int_by}
use Rattle.schema_core.specs.declared.table.ColumnKind.{ColumnKind}
use Rattle.schema_core.specs.declared.table.ColumnKind.TheVariants as kind
use Rattle.std.specs.Prelude.{nat_le, ◌<◌, ◌-◌, ◌^◌}
use Rattle.script_lex.specs.declared.token.Content.{Content}
use Rattle.script_lex.specs.declared.token.Content.TheVariants.{Number}
use Rattle.script_tokens.specs.Input.{head}

abbrev pub length_in : Kind → Content → Option ℕ
length_in k.Number (Number n) = if nat_le n 4294967295 then Some n else None
length_in _ _ = None

-- a number of at most 4294967295
unfoldable pub text_length : Reader ℕ
text_length = λ i. int_by (length_in (head i).kind (head i).content) i

-- `(n)`, where it comes next
unfoldable pub length_if_any : Reader (Option ℕ)
length_if_any = do
  found ← eat k.LParen
  if found then (do n ← text_length; expect k.RParen; pure (Some n)) else pure None

abbrev pub column_kind_by : Kind → Reader ColumnKind
column_kind_by k.Integer = take_token >> pure kind.Integer
column_kind_by k.Varchar = take_token >> kind.Varchar <$> length_if_any
column_kind_by k.Text = take_token >> pure kind.Text
column_kind_by k.Boolean = take_token >> pure kind.Boolean
column_kind_by k.Bytes = take_token >> pure kind.Bytes
column_kind_by _ = refuse

unfoldable pub column_kind : Reader ColumnKind
column_kind = peek >>= column_kind_by

-- `first second`, where the first word comes next
abbrev pub both_words : Kind → Kind → Reader Bool
both_words first second = do
  found ← eat first
  if found then expect second >> pure true else pure false

-- `name type primary key not null`
unfoldable pub column : Reader Command
column = do
  called ← name
  type ← column_kind
  key ← both_words k.Primary k.Key
  not_null ← both_words k.Not k.Null
  pure (c.ColumnLine (record { name = called; kind = type; key = key; not_null = not_null }))

-- after `foreign`
unfoldable pub foreign : Reader Command
foreign = do
  expect k.Key
  columns ← names
  expect k.References
  target ← name
  pure (c.ForeignLine (record { columns = columns; target = target }))

abbrev pub table_line_by : Kind → Reader Command
table_line_by k.End = take_token >> pure c.End
table_line_by k.Unique = take_token >> c.UniqueLine <$> names
table_line_by k.Foreign = take_token >> foreign
table_line_by _ = column

unfoldable pub table_line : Reader Command
table_line = peek >>= table_line_by
