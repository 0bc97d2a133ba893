-- Lines of the block of a table.
use Rattle.std.specs.Prelude.{◌≡◌, ℕ, nat_le, Bool, true, false, [], ◌∷◌}
use Rattle.schema_core.specs.declared.table.ColumnKind.{ColumnKind}
use Rattle.schema_core.specs.declared.table.ColumnKind.TheVariants as kind
use Rattle.script_types.specs.declared.command.Command.{Command}
use Rattle.script_types.specs.declared.command.Command.TheVariants as c
use Rattle.script_lex.specs.declared.kind.Kind.{Kind}
use Rattle.script_lex.specs.declared.kind.Kind.TheVariants as k
use Rattle.script_lex.specs.declared.token.Token.{Token}
use Rattle.script_lex.specs.declared.token.Content.TheVariants as content
use Rattle.script_laws.specs.Readings.Forms.Form.{Form, ◌>>=◌, ◌>>◌, ◌<$>◌, ◌or◌, says, word, maybe, whether}
use Rattle.script_laws.specs.Readings.Forms.Basics.{name_but, name, names}

-- the length of a varchar, at most 4294967295
abbrev pub length : Form ℕ
length tokens count n = (t : Token) × (tokens ≡ t ∷ []) × (t.kind ≡ k.Number) × (t.content ≡ content.Number n) × (nat_le n 4294967295 ≡ true) × (count ≡ 0)

-- TYPE: `integer`, `varchar`, `varchar(INT)`, `text`, `boolean`, `bytes`
abbrev pub column_type : Form ColumnKind
column_type =
    (word k.Integer >> says kind.Integer)
    or (word k.Varchar >> kind.Varchar <$> maybe (do word k.LParen; n ← length; word k.RParen; says n))
    or (word k.Text >> says kind.Text)
    or (word k.Boolean >> says kind.Boolean)
    or (word k.Bytes >> says kind.Bytes)

-- the words that begin the other lines
abbrev pub is_line_word : Kind → Bool
is_line_word k.End = true
is_line_word k.Unique = true
is_line_word k.Foreign = true
is_line_word _ = false

-- `NAME TYPE [primary key] [not null]`
abbrev pub column_line : Form Command
column_line = do
  called ← name_but is_line_word
  type ← column_type
  key ← whether (word k.Primary >> word k.Key)
  not_null ← whether (word k.Not >> word k.Null)
  says (c.ColumnLine (record { name = called; kind = type; key = key; not_null = not_null }))

-- `unique (NAME {, NAME})`
abbrev pub unique_line : Form Command
unique_line = word k.Unique >> c.UniqueLine <$> names

-- `foreign key (NAME {, NAME}) references NAME`
abbrev pub foreign_line : Form Command
foreign_line = do
  word k.Foreign
  word k.Key
  columns ← names
  word k.References
  target ← name
  says (c.ForeignLine (record { columns = columns; target = target }))

-- `end`
abbrev pub end_line : Form Command
end_line = word k.End >> says c.End

abbrev pub table_line : Form Command
table_line = column_line or unique_line or foreign_line or end_line
